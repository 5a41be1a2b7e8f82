use Rattle.std.proofs.Common.{◌<◌, sym, ◌∙◌, subst, arith}
use Rattle.std.proofs.ByRecursion.{All-from_get_or}
use Rattle.std.proofs.lemmas.Result.{IfOk-weaker}
use Rattle.rows.proofs.Escapes.{escaped-printable, escaped-tells}
use Rattle.rows.proofs.escape.escaped.Goals as goal
use Rattle.rows.specs.Escapes.{Printable}

pub returns-clause-printable : goal.returns-clause-printable
returns-clause-printable c =
    IfOk-weaker c.joined.result _ _ (λ _ whole. subst Printable (sym whole) (escaped-printable c.args.bytes.now)) c.joined.ensures

pub returns-clause-tells : goal.returns-clause-tells
returns-clause-tells c =
    let bytes = All-from_get_or (λ byte. byte < 256) c.args.bytes.now 0 (λ i _. omega (arith, c.type_inv.bytes i)) in
    IfOk-weaker c.joined.result _ _
    (λ _ whole other others same. escaped-tells c.args.bytes.now other bytes others (same ∙ whole))
    c.joined.ensures
