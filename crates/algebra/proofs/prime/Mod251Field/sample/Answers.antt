use Rattle.std.proofs.Common.{◌≡◌, ◌<◌, ◌≤◌, take, refl, rules, tests, arith}
use Rattle.std.proofs.lemmas.List.{take_all}
use Rattle.std.proofs.lemmas.Iterator.{IsFirst-from_position, YieldsList-from_slice}
use Rattle.algebra.proofs.Samples.{sample_found, sample_none}
use Rattle.algebra.proofs.prime.Mod251Field.sample.Goals as goal

pub returns-in-Some : goal.returns-in-Some
returns-in-Some c =
    let bs = c.args.bytes.now in
    let all : take 16 bs ≡ bs = take_all 16 bs (omega arith) in
    let first = IsFirst-from_position _ _ _ (λ b. b < 251) (λ b. 251 ≤ b) c.in-Some.ensures.ran (YieldsList-from_slice bs cc)
    (λ x q k. search (rules, tests)) (λ x q k. search (rules, tests)) in
    sample_found bs c.in-Some.i _ refl first.0 (first.1 0) (λ k h. first.2 k 0 (omega arith) h)

pub returns-in-None : goal.returns-in-None
returns-in-None c =
    let bs = c.args.bytes.now in
    let all : take 16 bs ≡ bs = take_all 16 bs (omega arith) in
    let none = IsFirst-from_position _ _ _ (λ b. b < 251) (λ b. 251 ≤ b) c.in-None.ensures.ran (YieldsList-from_slice bs cc)
    (λ x q k. search (rules, tests)) (λ x q k. search (rules, tests)) in
    sample_none bs _ _ refl (omega arith) (λ k h. none k 0 (omega arith) h)
