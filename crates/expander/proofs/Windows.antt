-- Windows of streams, and what gives them. Assumes nothing.
use Rattle.std.proofs.Common.{◌≡◌, ℕ, ◌+◌, ◌/◌, ◌%◌, ◌^◌, ◌<◌, List, ◌∷◌, length, get_or, sym, refl, ap, ◌∙◌, arith}
use Rattle.std.proofs.lemmas.List.FromFn.{length-map-range_with_len, get_or-map-range_with_len, fill_by_all}
use Rattle.sponge.specs.Shake.{shake}
use Rattle.hashes.specs.Hashes.{Streaming}
use Rattle.sponge.specs.declared.state.Sponge.{Sponge}
use Rattle.expander.specs.Sources.{AtByte}
use Rattle.expander.specs.Streams.{window, seed_stream, tagged_stream}

pub length-window : (f : ℕ → ℕ) (k n : ℕ) → length (window f k n) ≡ n
unfolding window
length-window f k n = length-map-range_with_len (λ j. f (k + j)) 0 n

pub window_at : (f : ℕ → ℕ) (k n i : ℕ) → i < n → get_or (window f k n) i 0 ≡ f (k + i)
unfolding window
window_at f k n i h = get_or-map-range_with_len (λ j. f (k + j)) 0 n i i 0 h (omega arith)

-- a list is a window where each of its places is
pub window_is : (f : ℕ → ℕ) (k n : ℕ) (xs : List ℕ) → length xs ≡ n → ((i : ℕ) → i < n → get_or xs i 0 ≡ f (k + i)) → xs ≡ window f k n
unfolding window
window_is f k n xs long at = fill_by_all (λ j. f (k + j)) xs n 0 long at

pub window_tagged : (tag : ℕ) (m : List ℕ) (k n : ℕ) → shake (tag ∷ m) k n ≡ window (tagged_stream tag m) k n
unfolding window tagged_stream shake
window_tagged tag m k n = refl

-- a block is the window of its seed's stream where it begins
pub window_seed : (block : List ℕ → List ℕ → ℕ → List ℕ) (salt seed : List ℕ) (k n : ℕ) → length (block salt seed n) ≡ 16 → k % 16 ≡ 0 → n ≡ k / 16 % 2 ^ 64
    → block salt seed n ≡ window (seed_stream block salt seed) k 16
unfolding seed_stream
window_seed block salt seed k n long begins number =
    window_is (seed_stream block salt seed) k 16 (block salt seed n) long
    (λ i h.
    let place : (k + i) % 16 ≡ i = omega arith in
    let here : (k + i) / 16 ≡ k / 16 = omega arith in
    let same : (k + i) / 16 % 2 ^ 64 ≡ n = ap (λ (t : ℕ). t % 2 ^ 64) here ∙ sym number in
    sym (ap (λ (j : ℕ). get_or (block salt seed ((k + i) / 16 % 2 ^ 64)) j 0) place ∙ ap (λ (j : ℕ). get_or (block salt seed j) i 0) same))

-- a sponge at byte k of S(tag, m) is a source of that stream
pub tagged_source : (s : Sponge) (tag : ℕ) (m : List ℕ) (k : ℕ) → Streaming s tag m k → AtByte s (tagged_stream tag m) k
tagged_source s tag m k at = record { tag = tag; message = m; stream = refl; place = at }
