-- AES-128 on one block (FIPS 197, section 5.1). The state is the list of its four columns, each a word: row r of column c is byte
-- r of word c. Assumes nothing.
use Rattle.std.specs.Prelude.{ℕ, zero, suc, ◌+◌, ◌*◌, ◌%◌, List, [], slice_index, slice_index_or}
use Rattle.cipher.specs.Word.{four, add_words, sub_word, mix_column}
use Rattle.cipher.specs.Expansion.{words_of, bytes_of, schedule_of}

-- SubBytes: the S-box at each byte
unfoldable pub sub_bytes : List (List ℕ) → List (List ℕ)
sub_bytes s = four (λ c. sub_word (slice_index_or s c []))

-- ShiftRows: row r goes left by r columns
unfoldable pub shift_rows : List (List ℕ) → List (List ℕ)
shift_rows s = four (λ c. four (λ r. slice_index (slice_index_or s ((c + r) % 4) []) r))

-- MixColumns
unfoldable pub mix_columns : List (List ℕ) → List (List ℕ)
mix_columns s = four (λ c. mix_column (slice_index_or s c []))

-- AddRoundKey of round r: words 4r to 4r + 3 of the schedule are added to the columns
unfoldable pub add_round_key : List (List ℕ) → ℕ → List (List ℕ) → List (List ℕ)
add_round_key w r s = four (λ c. add_words (slice_index_or s c []) (slice_index_or w (4 * r + c) []))

-- the first n rounds after the first key was added
unfoldable pub rounds : List (List ℕ) → ℕ → List (List ℕ) → List (List ℕ)
rounds w zero s = s
rounds w (suc n) s = add_round_key w (suc n) (mix_columns (shift_rows (sub_bytes (rounds w n s))))

-- Cipher: nine rounds, and a last one without MixColumns
unfoldable pub cipher : List (List ℕ) → List (List ℕ) → List (List ℕ)
cipher w s = add_round_key w 10 (shift_rows (sub_bytes (rounds w 9 (add_round_key w 0 s))))

-- a block of sixteen bytes under a key of sixteen bytes
unfoldable pub encrypted : List ℕ → List ℕ → List ℕ
encrypted key block = bytes_of (cipher (schedule_of key) (words_of block))
