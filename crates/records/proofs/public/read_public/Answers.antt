use Rattle.std.proofs.Common.{◌≡◌, ◌≤◌, map, length, take, drop, sym, ap, ◌∙◌, arith, rules}
use Rattle.std.proofs.lemmas.List.{take_at, length-map, length-take-le}
use Rattle.lock.proofs.Ranges.{withins}
use Rattle.records.specs.Publics.{profile_value, height}
use Rattle.records.proofs.Keys.{key_same}
use Rattle.records.proofs.public.read_public.Goals as goal

pub slice_bounds-read_elements-end-2 : goal.slice_bounds-read_elements-end-2
slice_bounds-read_elements-end-2 g c =
    let range = (withins g.L.Lock.forms c.read_profile-profile.result c.in_ok-check_profile.ensures.1.0).shape.range in
    let numbers = rw c.unwrap.ensures at c.split_first_chunk.ensures.cases in
    let seed = rw c.unwrap-2.ensures at c.split_first_chunk-2.ensures.cases in
    let fits : length c.unwrap-2.result.1.now ≤ length c.args.y.now = omega (arith, c.requires, c.in_ok-check_profile.ensures.1.1, numbers.2, seed.2, range.m_high, range.k_low) in
    sym (length-take-le _ c.args.y.now fits)

pub read_elements-requires : goal.read_elements-requires
read_elements-requires g c =
    let range = (withins g.L.Lock.forms c.read_profile-profile.result c.in_ok-check_profile.ensures.1.0).shape.range in
    let numbers = rw c.unwrap.ensures at c.split_first_chunk.ensures.cases in
    let seed = rw c.unwrap-2.ensures at c.split_first_chunk-2.ensures.cases in
    let fits : length c.unwrap-2.result.1.now ≤ length c.args.y.now = omega (arith, c.requires, c.in_ok-check_profile.ensures.1.1, numbers.2, seed.2, range.m_high, range.k_low) in
    length-take-le _ c.args.y.now fits

pub invariant_of-result : goal.invariant_of-result
invariant_of-result g c =
    let front = rw c.unwrap-2.ensures at c.split_first_chunk-2.ensures.cases in
    record { seed = ap length front.0 ∙ length-take-le 16 c.unwrap.result.1.now (omega (arith, front.2)) }

pub returns : goal.returns
returns g c =
    let o = g.F.Field.ops in
    let p = c.read_profile-profile.result in
    let body : c.in_ok-body.body.now ≡ drop 5 c.args.bytes.now = c.in_ok-body.ensures.1.0 in
    let numbers = rw c.unwrap.ensures at c.split_first_chunk.ensures.cases in
    let seed = rw c.unwrap-2.ensures at c.split_first_chunk-2.ensures.cases in
    let rest = numbers.1 ∙ ap (drop 14) body in
    let size = c.in_ok-check_profile.ensures.1.1 in
    let long : length c.read_elements.new.out ≡ height p =
    ap length c.read_elements.ensures ∙ length-map c.unwrap-2.result.1.now o.element ∙ omega (arith, size, numbers.2, seed.2) in (
      search rules,
      record {
        key = key_same _ _ _ _ (c.read_profile-profile.ensures ∙ ap profile_value (numbers.0 ∙ ap (take 14) body))
            (seed.0 ∙ ap (take 16) rest)
            (take_at c.read_elements.new.out _ (height p) long ∙ c.read_elements.ensures ∙ ap (map o.element) (seed.1 ∙ ap (drop 16) rest));
        limits = c.in_ok-check_profile.ensures.1.0;
      },
    )
