use Rattle.std.proofs.Common.{not, sym, ap, ◌∙◌, ne_eqb, eq-eqb, arith}
use Rattle.laws.proofs.Loaded.{size_loaded}
use Rattle.key.specs.Key.{num}
use Rattle.bucket.specs.Settings.{settings_of}
use Rattle.loaded.proofs.Asked.{fits_empty, fits_many, fits_not_formed, fits_off, fits_on}
use Rattle.loaded.proofs.bucket_fits.Goals as goal

pub returns-then-count-eq0 : goal.returns-then-count-eq0
returns-then-count-eq0 c =
    let a = c.args in
    fits_empty (num a.local) (settings_of a.settings) a.bucket.saved.bytes.now a.bucket.i (sym c.count-count.ensures.count ∙ c.if-count-eq0.true)

pub returns-then-count-gt-MAX_NODES_PER_BUCKET : goal.returns-then-count-gt-MAX_NODES_PER_BUCKET
returns-then-count-gt-MAX_NODES_PER_BUCKET c =
    let a = c.args in
    fits_many (num a.local) (settings_of a.settings) a.bucket.saved.bytes.now a.bucket.i (omega (arith, c.count-count.ensures.count, c.if-count-gt-MAX_NODES_PER_BUCKET.true))

pub returns-then-not-bucket_formed : goal.returns-then-not-bucket_formed
returns-then-not-bucket_formed c =
    let a = c.args in
    let e = sym c.bucket_formed.ensures ∙ c.if-not-bucket_formed.true in
    fits_not_formed (num a.local) (settings_of a.settings) a.bucket.saved.bytes.now a.bucket.i (rw c.build.ensures at e)

pub returns-then-settings-ne1 : goal.returns-then-settings-ne1
returns-then-settings-ne1 c =
    let a = c.args in
    let e = sym c.bucket_formed.ensures ∙ c.if-not-bucket_formed.false in
    fits_off (num a.local) (settings_of a.settings) a.bucket.saved.bytes.now a.bucket.i (rw c.build.ensures at e) (ne_eqb _ _ c.if-settings-ne1.true)

pub of-requires : goal.of-requires
of-requires c =
    let a = c.args in
    let b = a.bucket in
    rw c.build.ensures (omega (arith, size_loaded b.saved.bytes.now b.i, c.count-count.ensures.count, c.if-count-gt-MAX_NODES_PER_BUCKET.false))

pub returns : goal.returns
returns c =
    let a = c.args in
    let e = sym c.bucket_formed.ensures ∙ c.if-not-bucket_formed.false in
    ap not (rw (c.of.ensures, c.build.ensures) at c.three_of_a_net.ensures)
    ∙ fits_on (num a.local) (settings_of a.settings) a.bucket.saved.bytes.now a.bucket.i (rw c.build.ensures at e) (eq-eqb _ _ c.if-settings-ne1.false)
