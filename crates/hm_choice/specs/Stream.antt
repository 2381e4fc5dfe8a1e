-- What a stream of random words is, and what is drawn from its words.
use Rattle.std.specs.Prelude.{◌≡◌, ℕ, ◌+◌, ◌-◌, ◌*◌, ◌/◌, ◌%◌, ◌^◌, ◌<◌, List, ◌++◌, replicate}
use Rattle.std.specs.Int.{w64, to_le_bytes}
use Rattle.rand_chacha.specs.ChaCha.{word_at, key_of}

-- a stream of ChaCha: the eight words of its key, its number, and the position of its next word, below 2 ^ 68
pub record Words : Type 0 where
  pub key : List ℕ
  pub number : ℕ
  pub place : ℕ

-- the key of a seed: it as 8 bytes, the lowest first, and 24 zero bytes
abbrev pub key_of_seed : ℕ → List ℕ
key_of_seed seed = key_of (to_le_bytes w64 seed ++ replicate 24 0)

-- a stream of a run, of which no word is taken
abbrev pub start_of : ℕ → ℕ → Words
start_of seed number = record { key = key_of_seed seed; number = number; place = 0 }

-- ChaCha with 8 rounds has 4 double rounds
abbrev pub double_rounds : ℕ
double_rounds = 4

-- the next word
abbrev pub next_word : Words → ℕ
next_word s = word_at double_rounds s.key s.number s.place

-- the stream with one more word taken, or one fewer; it repeats after 2 ^ 68 words
abbrev pub after_word : Words → Words
after_word s = record s { place = (s.place + 1) % 2 ^ 68 }

abbrev pub before_word : Words → Words
before_word s = record s { place = (s.place + (2 ^ 68 - 1)) % 2 ^ 68 }

-- a word that is taken and given back comes again
abbrev pub ComesAgain : Type 0
ComesAgain = (s : Words) → s.place < 2 ^ 68 → before_word (after_word s) ≡ s

-- the number below n that a word draws
abbrev pub drawn : ℕ → ℕ → ℕ
drawn n word = word * n / 2 ^ 32

-- a canary of two words, the first of which is the low half; its lowest 8 bits are cleared
abbrev pub canary_of : ℕ → ℕ → ℕ
canary_of low high = (high * 2 ^ 32 + low) / 2 ^ 8 * 2 ^ 8
