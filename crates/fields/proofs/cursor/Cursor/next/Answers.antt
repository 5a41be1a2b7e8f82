use Rattle.std.proofs.Common.{◌≡◌, ◌≢◌, ◌<◌, false, eqb, length, get_or, ◌∙◌, sym, rules}
use Rattle.fields.specs.Fields.{letter}
use Rattle.fields.proofs.Fields.{name-here, number-here}
use Rattle.fields.proofs.cursor.Cursor.next.Goals as goal
use Rattle.fields.proofs.cursor.Cursor.next.Goals.{in_default-via-then-first-lt65, in_default-via-else-first-lt65+else-first-lt91}

pub returns-in-65-to-90-clause-next : goal.returns-in-65-to-90-clause-next
returns-in-65-to-90-clause-next c =
    let xs = c.skip_spaces.new.self.line.now in
    let i = c.skip_spaces.new.self.at in
    let b = c.in_ok-first.first.now in
    let h : i < length xs = search rules in
    let here : get_or xs i 0 ≡ b = search rules in
    let s : b ≢ 32 = search (rules, c.skip_spaces.ensures.stops) in
    sym c.skip_spaces.ensures.left ∙ name-here xs _ _ i _ b h here s c.take_word.ensures.place c.take_word.ensures.line c.take_word.ensures.word (search rules) (search rules)

pub returns-in_default-clause-next : goal.returns-in_default-clause-next
returns-in_default-clause-next c =
    let xs = c.skip_spaces.new.self.line.now in
    let i = c.skip_spaces.new.self.at in
    let b = c.in_ok-first.first.now in
    let h : i < length xs = search rules in
    let here : get_or xs i 0 ≡ b = search rules in
    let s : b ≢ 32 = search (rules, c.skip_spaces.ensures.stops) in
    let e : eqb b 47 ≡ false = search rules in
    let f : eqb b 44 ≡ false = search rules in
    let l : letter b ≡ false = elim c.in_default.branch [ in_default-via-then-first-lt65 w ↦ search rules | in_default-via-else-first-lt65+else-first-lt91 w ↦ search rules ] in
    sym c.skip_spaces.ensures.left ∙ number-here xs _ _ i _ b h here s c.take_word-in_default.ensures.place c.take_word-in_default.ensures.line c.take_word-in_default.ensures.word e f l
