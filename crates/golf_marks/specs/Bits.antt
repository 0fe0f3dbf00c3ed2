-- Places as bits of words.
use Rattle.std.specs.Prelude.{ℕ, zero, suc, ◌+◌, ◌*◌, ◌/◌, ◌%◌, ◌^◌, ◌==◌, List, [], ◌∷◌, ◌++◌, bit_and, slice_index}
use Rattle.std.specs.Prelude.{if◌then◌else◌}
use Rattle.std.specs.Int.{bit_not, w64}

-- a word has 64 places; the place p is bit p % 64 of word p / 64
abbrev pub word_of : ℕ → ℕ
word_of p = p / 64

-- the word in which only the bit of the place is set
abbrev pub mask_of : ℕ → ℕ
mask_of p = 2 ^ (p % 64)

-- the bit of the place in its word
unfoldable pub bit_in : ℕ → ℕ → ℕ
bit_in p word = bit_and (word / 2 ^ (p % 64)) 1

-- the bit of the place in these words
abbrev pub bit_at : List ℕ → ℕ → ℕ
bit_at words p = bit_in p (slice_index words (word_of p))

-- the places among the first k of a word whose bits are set in n, in rising order
abbrev pub marked_below : ℕ → ℕ → ℕ → List ℕ
marked_below word n zero = []
marked_below word n (suc k) = (if bit_in (64 * word + k) n == 1 then marked_below word n k
    ++ (64 * word + k) ∷ [] else marked_below word n k)

-- the places of a word whose bits are set in n, in rising order
abbrev pub marked_in : ℕ → ℕ → List ℕ
marked_in word n = marked_below word n 64

-- the bits of the mask that are not set in n
abbrev pub unset_in : ℕ → ℕ → ℕ
unset_in mask n = bit_and mask (bit_not w64 n)
