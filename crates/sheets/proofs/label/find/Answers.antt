use Rattle.std.proofs.Common.{◌≡◌, sym, ap, ◌∙◌, rules, ℕ}
use Rattle.std.specs.Option.{option_map, option_copied}
use Rattle.sheets.proofs.Labels.{looked-up}
use Rattle.sheets.proofs.label.find.Goals as goal

pub returns : goal.returns
returns c =
    let e = looked-up c.args.labels.now c.args.name in
    let m : c.map.result ≡ option_map {U = ℕ} (λ l. l.address) (option_copied c.labelled.result) = search rules in
    m ∙ ap (option_map (λ l. l.address)) c.labelled.ensures ∙ sym e
