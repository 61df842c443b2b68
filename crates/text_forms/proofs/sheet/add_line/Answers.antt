-- What was read is what the line says. Assumes nothing.
use Rattle.std.proofs.Common.{refl, rules}
use Rattle.text_forms.proofs.Sheets.{read-says, line_added}
use Rattle.text_forms.proofs.sheet.add_line.Goals as goal

pub returns : goal.returns
returns c =
    line_added _ _ _ _ _ _
    (read-says _ _ _ _ _ _ c.phrase_of.ensures refl (search rules) c.unescape.ensures c.in_ok-size.was)
    (rw (← c.front.ensures) c.add_phrase.ensures)
