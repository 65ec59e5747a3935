use Rattle.std.proofs.Common.{◌≡◌, ℕ, ◌+◌, ◌-◌, ◌<◌, ◌≤◌, List, ◌++◌, length, get_or, sym, ap, ◌∙◌, arith}
use borrow.Rule.Slice.PartMut.{put_mid, post_of}
use Rattle.std.proofs.lemmas.List.{get_or_append_left}
use Rattle.expander.specs.Sampling.{Sampling}
use Rattle.expander.specs.Streams.{window}
use Rattle.expander.proofs.Samples.{part, length_part, length-put, part-window, sample-held, sample_further, sample_most, goes_on, goes_over}
use Rattle.expander.proofs.Windows.{length-window}
use Rattle.expander.proofs.sampler.Sampler.next.Given.{Over}
use Rattle.expander.proofs.sampler.Sampler.next.Goals as goal

pub returns-then-self-used-le-BLOCK : goal.returns-then-self-used-le-BLOCK
unfolding Sampling
returns-then-self-used-le-BLOCK g c f k is =
    let self = c.args.self.now in
    let sampled = g.F.Field.sampled in
    let x = c.sample-x.result in
    let read : c.sample-x.result ≡ sampled (part self.pair self.at) = c.sample-x.ensures ∙ ap sampled c.sixteen.ensures in
    let right = sample-held g.met.F.Field.reads self.pair self.at f k x self.full self.place is.held read c.if-self-used-le-BLOCK.true in
    let n = ap (λ (p : g.row.F.Denot × ℕ). p.1) right in (
      ap (λ (p : g.row.F.Denot × ℕ). p.0) right,
      goes_on g.S.Stream.gives self.pair self.at f k (sampled (window f k 16)).1 x.1 self.source is c.if-self-used-le-BLOCK.true n,
    )

-- the second sample uses a byte of the block
over : (g : Over) (c : goal.After-copy_from_slice-2 g) → 16 < c.args.self.now.at + c.sample-y.result.1
over g c =
    let self = c.args.self.now in
    let sampled = g.F.Field.sampled in
    let block = c.copy_from_slice.new.self in
    let long = c.copy_from_slice.ensures.len ∙ length_part self.pair 16 self.full (omega arith) in
    let x : c.sample-x.result ≡ sampled (part self.pair self.at) = c.sample-x.ensures ∙ ap sampled c.sixteen.ensures in
    let y : c.sample-y.result ≡ sampled (part (put_mid 16 16 self.pair block) self.at) =
    c.sample-y.ensures ∙ ap sampled {y = part (put_mid 16 16 self.pair block) self.at} c.sixteen-2.ensures in
    sample_further g.met.F.Field.reads self.pair block self.at c.sample-x.result c.sample-y.result
    self.full long self.place x y c.if-self-used-le-BLOCK.false

-- and sixteen at most
most : (g : Over) (c : goal.After-copy_from_slice-2 g) → c.sample-y.result.1 ≤ 16
most g c =
    let self = c.args.self.now in
    let block = c.copy_from_slice.new.self in
    let long = c.copy_from_slice.ensures.len ∙ length_part self.pair 16 self.full (omega arith) in
    let full : length (put_mid 16 16 self.pair block) ≡ 32 = length-put 16 16 self.pair block (omega arith) long ∙ self.full in
    sample_most g.met.F.Field.reads (put_mid 16 16 self.pair block) self.at c.sample-y.result full self.place
    (c.sample-y.ensures ∙ ap g.F.Field.sampled c.sixteen-2.ensures)

pub overflow_add-self-2 : goal.overflow_add-self-2
overflow_add-self-2 g c = omega (arith, most g c, c.args.self.now.place)

pub overflow_sub-self : goal.overflow_sub-self
overflow_sub-self g c = omega (arith, over g c)

pub invariant_of-self-2 : goal.invariant_of-self-2
invariant_of-self-2 g c =
    let self = c.args.self.now in
    let block = c.copy_from_slice.new.self in
    let both = put_mid 16 16 self.pair block in
    let long = c.copy_from_slice.ensures.len ∙ length_part self.pair 16 self.full (omega arith) in
    let full : length (put_mid 16 16 self.pair block) ≡ 32 = length-put 16 16 self.pair block (omega arith) long ∙ self.full in
    let same = c.copy_from_slice-2.ensures.after ∙ sym c.copy_from_slice.ensures.after in
    let used : 1 ≤ self.at + c.sample-y.result.1 - 16 = omega (arith, over g c) in
    let place : self.at + c.sample-y.result.1 - 16 ≤ 16 = omega (arith, most g c) in
    record { used = used; place = place; full = length-put 0 16 both c.copy_from_slice-2.new.self (omega arith) (ap length same ∙ long) ∙ full }

pub returns : goal.returns
unfolding Sampling
returns g c f k is =
    let self = c.args.self.now in
    let sampled = g.F.Field.sampled in
    let y = c.sample-y.result in
    let block = c.copy_from_slice.new.self in
    let both = put_mid 16 16 self.pair block in
    let given = c.next_block-block.ensures f (k + (16 - self.at)) is.rest in
    let next = c.copy_from_slice.ensures.after ∙ given.0 in
    let long = ap length next ∙ length-window f (k + (16 - self.at)) 16 in
    let same = c.copy_from_slice-2.ensures.after ∙ sym c.copy_from_slice.ensures.after in
    let right =
    c.sample-y.ensures
    ∙ ap sampled (c.sixteen-2.ensures ∙ part-window self.pair block self.at f k self.full self.place is.held next) in
    let over : 16 ≤ self.at + y.1 = omega arith in
    let within : self.at + y.1 ≤ 32 = omega arith in
    let first : (j : ℕ) → j < 16 → get_or (c.copy_from_slice-2.new.self ++ post_of 0 16 both) j 0 ≡ get_or block j 0 =
    λ j h. get_or_append_left c.copy_from_slice-2.new.self (post_of 0 16 both) 0 j (omega (arith, ap length same)) ∙ ap (λ (l : List ℕ). get_or l j 0) same in (
      ap (λ (p : g.row.F.Denot × ℕ). p.0) right,
      goes_over g.S.Stream.gives (c.copy_from_slice-2.new.self ++ post_of 0 16 both) self.at f k (sampled (window f k 16)).1 y.1
          c.next_block-block.new.self block given.1 next first self.place over within (ap (λ (p : g.row.F.Denot × ℕ). p.1) right),
    )
