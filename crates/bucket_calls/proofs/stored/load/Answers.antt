use Rattle.bucket_calls.proofs.Sound.{lent_sound, lent_codes, lent_becomes}
use Rattle.bucket_calls.proofs.stored.load.Goals as goal

pub load-requires : goal.load-requires
load-requires c =
    let s = c.args.s.now in
    rw (c.settings.ensures, c.bucket_bytes.ensures) (record { bucket_value = lent_sound s c.requires; settings_value = lent_codes s c.requires })

pub returns : goal.returns
returns c = lent_becomes c.args.s.now c.settings.result c.load.result.bucket c.settings.ensures (rw c.bucket_bytes.ensures at c.load.ensures)
