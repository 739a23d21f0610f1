use Rattle.std.proofs.Common.{sym}
use Rattle.model.specs.Layout.{table_of}
use Rattle.laws.proofs.KeepStep.{bucket_index_below}
use Rattle.key.specs.Key.{num}
use Rattle.on_key.proofs.located.Goals as goal

pub bucket_formed_at-requires : goal.bucket_formed_at-requires
bucket_formed_at-requires c = bucket_index_below (table_of c.args.s.now).settings.local_key (num c.args.key) c.in-Some.i (sym c.in-Some.ensures)

pub returns : goal.returns
returns c =
    record {
      key_is = cc;
      index = sym c.in-Some.ensures;
      ready =
          record {
            size = c.told-s;
            header = c.requires;
            below = bucket_index_below (table_of c.args.s.now).settings.local_key (num c.args.key) c.in-Some.i (sym c.in-Some.ensures);
            bucket = cc;
          };
    }
