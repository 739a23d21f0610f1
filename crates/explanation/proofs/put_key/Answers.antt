use Rattle.std.proofs.Common.{refl, ◌∙◌}
use Rattle.std.proofs.lemmas.Result.{IfOk-at_ok}
use Rattle.key.specs.Key.{num}
use Rattle.explanation.proofs.Text.{hex_text, length_key_text, put_front}
use Rattle.explanation.proofs.put_key.Goals as goal

pub returns : goal.returns
returns c =
    let k = num c.args.key in
    let written = IfOk-at_ok _ c.unwrap.ensures c.encode_to_slice.ensures.written in
    put_front _ 64 (written ∙ hex_text k c.to_bytes.ensures) (length_key_text k) refl c.requires
