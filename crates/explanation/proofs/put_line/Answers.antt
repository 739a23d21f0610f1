use Rattle.std.proofs.Common.{length-append, arith}
use Rattle.explanation.specs.Explanation.{told_of}
use Rattle.explanation.proofs.Text.{put_left, put_then}
use Rattle.explanation.proofs.Short.{told_short, why_short, line_text}
use Rattle.explanation.proofs.put_line.Goals as goal

pub put_word-n-requires : goal.put_word-n-requires
put_word-n-requires c = put_left c.put_told-n.ensures _ (omega (arith, told_short (told_of c.args.told)))

pub put_why-n-requires : goal.put_why-n-requires
put_why-n-requires c =
    put_left (put_then c.put_told-n.ensures c.put_word-n.ensures) _ (simp length-append (omega (arith, told_short (told_of c.args.told))))

pub put_word-requires : goal.put_word-requires
put_word-requires c =
    put_left (put_then (put_then c.put_told-n.ensures c.put_word-n.ensures) c.put_why-n.ensures) _
    (simp length-append (omega (arith, told_short (told_of c.args.told), why_short c.args.why)))

pub returns : goal.returns
returns c = line_text _ (put_then (put_then (put_then c.put_told-n.ensures c.put_word-n.ensures) c.put_why-n.ensures) c.put_word.ensures)
