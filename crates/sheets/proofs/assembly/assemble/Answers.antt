use Rattle.std.proofs.Common.{◌≡◌, length, rules}
use Rattle.sheets.proofs.Laws.{assembles-after}
use Rattle.sheets.proofs.assembly.assemble.Goals as goal

pub returns-clause-law : goal.returns-clause-law
returns-clause-law g c =
    let room : length c.deref_mut.result.now ≡ c.args.room = search rules in
    assembles-after c.args.room _ _ c.args.text.now (simp room at c.assemble_over.ensures.memory)
