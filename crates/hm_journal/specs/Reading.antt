-- What the words of a line would say, whatever they are: a line is read by these, written again and compared.
use Rattle.std.specs.Prelude.{ℕ, ◌==◌, ◌+◌, ◌-◌, ◌*◌, ◌%◌, ◌^◌, nat_le, min, Bool, List, [], ◌∷◌, map, take, drop, length, Option, Some, None, codes, slice_index_or, if◌then◌else◌, ◌≡◌, ⊤}
use Rattle.std.specs.List.{slice_split}
use Rattle.std.specs.Str.{bytes_eq}
use Rattle.hm_sizes.specs.declared.config.Config.{Config}
use Rattle.hm_model.specs.declared.entry.Call.{Call}
use Rattle.hm_model.specs.declared.entry.Call.TheVariants.{Allot, GiveBack, Measure, Fetch, Fill}
use Rattle.hm_model.specs.declared.entry.Choices.{Choices}
use Rattle.hm_model.specs.declared.entry.Draws.{Draws}
use Rattle.hm_model.specs.declared.entry.Entry.{Entry}
use Rattle.hm_model.specs.declared.entry.Reply.{Reply}
use Rattle.hm_model.specs.declared.entry.Reply.TheVariants.{Given, Overwritten, Exhausted, NoSpace, PagesFailed, Freed, NoSlot, Unused, DoubleFree, WrongSize, Canary, Usable, Bytes, Filled, Trap, NotLive}
use Rattle.hm_model.specs.declared.entry.Who.{Who}
use Rattle.hm_journal.specs.declared.lines.RegionLine.{RegionLine}
use Rattle.hm_model.specs.Calls.{CallRuns}
use Rattle.hm_model.specs.Replies.{HasRuns}

-- the words between single spaces, without the last byte of the line
abbrev pub words_at : List ℕ → List (List ℕ)
words_at line = slice_split (λ b. b == 32) (take (length line - 1) line)

-- the word at an index
abbrev pub word_at : List (List ℕ) → ℕ → List ℕ
word_at words i = slice_index_or words i []

-- ---- numbers
-- a digit more
abbrev pub next_value : ℕ → ℕ → ℕ
next_value value digit = (value * 10 % 2 ^ 64 + (digit - 48)) % 2 ^ 64

abbrev pub value_after : ℕ → List ℕ → ℕ
value_after value [] = value
value_after value (digit ∷ digits) = value_after (next_value value digit) digits

unfoldable pub number_at : List ℕ → ℕ
number_at word = value_after 0 word

unfoldable pub number32_at : List ℕ → ℕ
number32_at word = min (number_at word) 4294967295

unfoldable pub number8_at : List ℕ → ℕ
number8_at word = min (number_at word) 255

-- `-`, or a number
unfoldable pub option_at : List ℕ → Option ℕ
option_at word = if bytes_eq word (codes "-") then None else Some (number_at word)

unfoldable pub flag_at : List ℕ → Bool
flag_at word = bytes_eq word (codes "1")

-- ---- bytes and runs
unfoldable pub digit_at : ℕ → ℕ
digit_at digit = if nat_le digit 57 then digit - 48 else digit - 87

unfoldable pub byte_at : List ℕ → ℕ
byte_at (high ∷ low ∷ more) = (digit_at high * 16 % 256 + digit_at low) % 256
byte_at word = 0

-- a byte, any byte, and a number
unfoldable pub run_at : List ℕ → ℕ × ℕ
run_at word = (byte_at word, number_at (drop 3 word))

unfoldable pub pairs_at : List ℕ → List (ℕ × ℕ)
pairs_at word = if bytes_eq word (codes "-") then [] else map run_at (slice_split (λ b. b == 44) word)

-- ---- the parts of an entry
unfoldable pub who_at : List (List ℕ) → Who
who_at words = record {
  caller = number32_at (word_at words 0);
  round = number32_at (word_at words 1);
  thread = number32_at (word_at words 2);
  step = number32_at (word_at words 3);
  part = number8_at (word_at words 4);
}

unfoldable pub draws_at : List (List ℕ) → Draws
draws_at words = record {
  used = number8_at (word_at words 7);
  w0 = number32_at (word_at words 8);
  w1 = number32_at (word_at words 9);
  w2 = number32_at (word_at words 10);
}

unfoldable pub choices_at : List (List ℕ) → Choices
choices_at words = record {
  canary = option_at (word_at words 11);
  opened = option_at (word_at words 12);
  released = option_at (word_at words 13);
  retired = option_at (word_at words 14);
  purged = option_at (word_at words 15);
  unparked = option_at (word_at words 16);
  guard = option_at (word_at words 17);
}

-- of the words from the call's name on
unfoldable pub call_at : List (List ℕ) → Option Call
call_at words =
    if bytes_eq (word_at words 0) (codes "allot") then Some (Allot (number_at (word_at words 1)) (number_at (word_at words 2)))
    else (if bytes_eq (word_at words 0) (codes "giveback") then Some (GiveBack (number_at (word_at words 1)) (option_at (word_at words 2)))
    else (if bytes_eq (word_at words 0) (codes "measure") then Some (Measure (number_at (word_at words 1)))
    else (if bytes_eq (word_at words 0) (codes "fetch") then Some (Fetch (number_at (word_at words 1)) (number_at (word_at words 2)))
    else (if bytes_eq (word_at words 0) (codes "fill") then Some (Fill (number_at (word_at words 1)) (pairs_at (word_at words 2)))
    else None))))

-- so many words does a call of this name have
unfoldable pub call_length : List ℕ → ℕ
call_length name = if bytes_eq name (codes "measure") then 2 else 3

-- the reply of one digit, by its digit and the words
unfoldable pub short_reply_at : ℕ → List (List ℕ) → Option Reply
short_reply_at digit words =
    if digit == 49 then Some (Given (number_at (word_at words 1)) (number_at (word_at words 2)))
    else (if digit == 50
    then Some (Overwritten (number_at (word_at words 1)) (number_at (word_at words 2)) (byte_at (word_at words 3)))
    else (if digit == 51 then Some Exhausted
    else (if digit == 52 then Some NoSpace
    else (if digit == 53 then Some PagesFailed
    else (if digit == 55 then Some Freed
    else (if digit == 56 then Some NoSlot
    else (if digit == 57 then Some Unused
    else None)))))))

-- the reply of a 1 and a digit
unfoldable pub long_reply_at : ℕ → List (List ℕ) → Option Reply
long_reply_at digit words =
    if digit == 48 then Some DoubleFree
    else (if digit == 49 then Some (WrongSize (number_at (word_at words 1)) (number_at (word_at words 2)))
    else (if digit == 50 then Some (Canary (number_at (word_at words 1)) (number_at (word_at words 2)))
    else (if digit == 51 then Some (Usable (number_at (word_at words 1)))
    else (if digit == 52 then Some (Bytes (pairs_at (word_at words 1)))
    else (if digit == 53 then Some Filled
    else (if digit == 54 then Some (Trap (number_at (word_at words 1)))
    else (if digit == 55 then Some NotLive
    else None)))))))

abbrev pub reply_by : List ℕ → List (List ℕ) → Option Reply
reply_by (digit ∷ []) words = short_reply_at digit words
reply_by (ten ∷ digit ∷ []) words = if ten == 49 then long_reply_at digit words else None
reply_by number words = None

-- of the words from the reply's number on
unfoldable pub reply_at : List (List ℕ) → Option Reply
reply_at words = reply_by (word_at words 0) words

-- the words of the reply: those behind the call and the colon
abbrev pub answer_at : List (List ℕ) → List (List ℕ)
answer_at words = drop 1 (drop (call_length (word_at words 18)) (drop 18 words))

-- the entry of a call and a reply, by the words before the call
abbrev pub entry_of : List (List ℕ) → Call → Reply → Entry
entry_of words call reply = record {
  who = who_at words;
  call = call;
  reply = reply;
  choices = choices_at words;
  draws = draws_at words;
  faults_before = number_at (word_at words 5);
  faults_after = number_at (word_at words 6);
}

-- what a reader gives of what the words would say: the same, but nothing where runs break a rule of theirs
abbrev pub GivesCall : Option Call → Option Call → Type 0
GivesCall result None = ⊤
GivesCall result (Some call) = CallRuns call → result ≡ Some call

abbrev pub GivesReply : Option Reply → Option Reply → Type 0
GivesReply result None = ⊤
GivesReply result (Some reply) = HasRuns reply → result ≡ Some reply

-- ---- the lines that are no entries
unfoldable pub config_at : List (List ℕ) → Config
config_at words = record {
  arenas = number32_at (word_at words 1);
  class_region = number_at (word_at words 2);
  large_space = number_at (word_at words 3);
  guard_interval = number32_at (word_at words 4);
  array_base = number32_at (word_at words 5);
  ring_base = number32_at (word_at words 6);
  park_length = number32_at (word_at words 7);
  check_reuse = flag_at (word_at words 8);
  random_slots = flag_at (word_at words 9);
}

unfoldable pub region_at : List (List ℕ) → RegionLine
region_at words = record {
  region = record { 0 = number32_at (word_at words 1) };
  first = number_at (word_at words 2);
  entries = number_at (word_at words 3);
}
