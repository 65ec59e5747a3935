use Rattle.std.proofs.Common.{◌≡◌, ℕ, ◌+◌, ◌%◌, ◌<◌, get_or, ap, ◌∙◌, arith}
use Rattle.std.proofs.lemmas.List.FromFn.{get_or-map-range_with_len}
use Rattle.keccak.specs.Keccak.{column, theta_at, theta}
use Rattle.keccak.proofs.theta.Goals as goal

pub returns : goal.returns
unfolding theta_at theta
returns c =
    let at : (x : ℕ) → x < 5 → get_or c.columns-c.result x 0 ≡ column c.args.s.now x =
    λ x h. ap (λ l. get_or l x 0) c.columns-c.ensures ∙ get_or-map-range_with_len (column c.args.s.now) 0 5 x x 0 h (omega arith) in
    c.lanes.ensures (theta_at c.args.s.now) (λ i r within is.
    let left = at ((i + 4) % 5) (omega arith) in
    let right = at ((i + 1) % 5) (omega arith) in
    cc)
