use Rattle.std.proofs.Common.{◌≡◌, ℕ, ◌<◌, not, List, [], ◌∷◌, ◌++◌, sym, subst, arith}
use Rattle.disassembly.specs.Laws.{AssemblesBack, LaysWords}
use Rattle.disassembly.specs.Names.{listed}
use Rattle.disassembly.specs.Rows.{begins_with_hex}
use Rattle.disassembly.specs.Sheets.{ending}
use Rattle.disassembly.proofs.Listed.{hex-or-listed}
use Rattle.disassembly.proofs.Rows.{assembles-back}
use Rattle.disassembly.proofs.Sheets.{lays-words}
use Rattle.disassembly.proofs.row.disassemble.Goals as goal

pub returns : goal.returns
returns c =
    let word = c.args.word in
    let fits : word < 65536 = omega arith in
    let is = sym c.row_of_word.ensures in
    record {
      text = c.row_of_word.ensures;
      back = subst (λ (text : List ℕ). AssemblesBack word text) is (assembles-back word fits);
      alone = subst (λ (text : List ℕ). LaysWords (word ∷ []) (text ++ 10 ∷ ending)) is (lays-words (word ∷ []) (fits, tt) (omega arith));
      hex = subst (λ (text : List ℕ). begins_with_hex text ≡ not (listed word)) is (hex-or-listed word);
    }
