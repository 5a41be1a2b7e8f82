use Rattle.std.proofs.Common.{◌≡◌, ℕ, rules}
use Rattle.std.proofs.lemmas.Iterator.Adapters.{items_from_extend, YieldsList-from_repeat_n}
use Rattle.rows.proofs.column.push_spaces.Goals as goal

pub returns : goal.returns
returns c =
    let spaces = YieldsList-from_repeat_n (λ (x y : ℕ). y ≡ x) c.args.count 32 c.repeat_n.ensures.count c.repeat_n.ensures.item (λ _ e. e) in
    let h = items_from_extend c.extend.result c.extend.ensures.ran spaces in
    search rules
