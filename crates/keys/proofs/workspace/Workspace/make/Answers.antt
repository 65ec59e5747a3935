use Rattle.std.proofs.Common.{subst}
use Rattle.lock.specs.declared.profile.Codes.{Codes}
use Rattle.keys.specs.Making.{SmallCodes, Made}
use Rattle.keys.proofs.Backs.{reads_back}
use Rattle.keys.proofs.workspace.Workspace.make.Goals as goal

pub returns-clause-reads : goal.returns-clause-reads
returns-clause-reads g c =
    let o = g.F.Field.ops in
    let l = g.L.Lock.forms in
    let sampled = g.F.Field.sampled in
    let block = g.E.Expander.block in
    let asked = c.args.request.now in
    let was = c.args.out.now in
    let now = c.write_key-result.new.out in
    let r = c.write_key-result.result in
    let is = c.codes_in_use-codes.ensures in
    reads_back sampled block g.met.F.Field.laws l g.met.L.Lock.makes _ (subst SmallCodes is.value is.small) asked.profile asked.matrix_seed.now asked.x.now was now r
    (subst (λ (k : Codes). Made sampled block o l k asked was now r) is.value c.write_key-result.ensures.answers)
