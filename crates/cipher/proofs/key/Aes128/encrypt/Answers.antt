use Rattle.std.proofs.Common.{◌≡◌, ℕ, suc, List, [], take, drop, length, get_or, refl, ap, ap₂, ◌∙◌, add-one, arith}
use Rattle.std.proofs.lemmas.List.FromFn.{get_or-map-range_with_len}
use Rattle.cipher.specs.Expansion.{words_of, bytes_of, round_key}
use Rattle.cipher.specs.Cipher.{sub_bytes, shift_rows, mix_columns, add_round_key, rounds, cipher, encrypted}
use Rattle.cipher.specs.Keyed.{key_of}
use Rattle.cipher.proofs.Schedules.{cut}
use Rattle.cipher.proofs.key.Aes128.encrypt.Goals as goal

-- the keys of the nine rounds
abbrev middle : List (List (List ℕ)) → List (List (List ℕ))
middle keys = take 9 (drop 1 keys)

pub loop-key-init : goal.loop-key-init
unfolding rounds
loop-key-init c = refl

pub loop-key-preserved : goal.loop-key-preserved
unfolding rounds
loop-key-preserved c =
    let self = c.args.self.now in
    let w = self.words in
    let i = c.loop-key.key-index in
    let keys = ap middle (c.as_chunks.ensures.front ∙ cut w self.full) in
    let nine : length (middle c.as_chunks.result.0.now) ≡ 9 = ap length keys in
    let key = ap (λ (k : List (List (List ℕ))). get_or k i []) keys ∙ get_or-map-range_with_len (round_key w) 1 9 i (suc i) [] (omega arith) (omega arith) in
    let mixed = c.mix_columns.ensures ∙ ap mix_columns (c.sub_shift.ensures ∙ ap (λ x. shift_rows (sub_bytes x)) c.loop-key.invariant) in
    rw add-one (c.add_round_key-s-in-loop-key.ensures w (suc i) key ∙ ap (add_round_key w (suc i)) mixed)

pub returns : goal.returns
unfolding key_of encrypted cipher
returns c =
    let self = c.args.self.now in
    let w = self.words in
    let block = words_of c.args.block.now in
    let keys = c.as_chunks.ensures.front ∙ cut w self.full in
    let key = λ (r : ℕ). ap (λ (k : List (List (List ℕ))). get_or k r []) keys in
    let nine : length (middle c.as_chunks.result.0.now) ≡ 9 = ap (λ k. length (middle k)) keys in
    let all : c.loop-key.key-index ≡ 9 = omega arith in
    let start = c.add_round_key-s.ensures w 0 (key 0) ∙ ap (add_round_key w 0) c.columns.ensures in
    let s : c.loop-key.s ≡ rounds w 9 (add_round_key w 0 block) = c.loop-key.invariant ∙ ap₂ (rounds w) all start in
    let last = c.add_round_key.ensures w 10 (key 10) ∙ ap (add_round_key w 10) (c.sub_shift-2.ensures ∙ ap (λ x. shift_rows (sub_bytes x)) s) in
    c.bytes.ensures ∙ ap bytes_of (last ∙ ap (λ x. cipher x block) self.expanded)
