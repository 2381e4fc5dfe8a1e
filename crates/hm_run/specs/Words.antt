-- The words after the program's name: a command and its options.
use Rattle.std.specs.Prelude.{◌≡◌, ◌⊎◌, ℕ, ◌%◌, ◌^◌, Bool, true, false, not, ◌&&◌, ◌||◌, ◌==◌, nat_lt, nat_le, if◌then◌else◌, List, [], ◌∷◌, length, codes, string_bytes, String, Option, Some, None, is_some, unwrap_or, option_and_then, ⊤}
use Rattle.std.specs.Char.{is_ascii_digit}
use Rattle.std.specs.List.{list_all}
use Rattle.std.specs.Str.Parse.{digits_value}
use Rattle.std.specs.declared.alloc.Global.{Global}
use Rattle.hm_sizes.specs.declared.config.Config.{Config}
use Rattle.hm_sizes.specs.Configs.{standard, light}
use Rattle.hm_trace.specs.Names.{is_word}
use Rattle.hm_run.specs.declared.words.Asked.{Asked}
use Rattle.hm_run.specs.declared.words.Command.{Command}
use Rattle.hm_run.specs.declared.words.Command.TheVariants.{Run, Check, Stress}
use Rattle.hm_run.specs.declared.words.Output.{Output}
use Rattle.hm_run.specs.declared.words.Output.TheVariants.{Report, Journal, Stats, Watch}
use Rattle.hm_run.specs.declared.words.OptionName.{OptionName}
use Rattle.hm_run.specs.declared.words.OptionName.TheVariants as option_name
use Rattle.hm_run.specs.declared.words.OptionName.TheVariants.{Seed, ClassRegion, LargeSpace}
use Rattle.hm_run.specs.declared.words.Options.{Options}
use Rattle.hm_run.specs.declared.words.Template.{Template}
use Rattle.hm_run.specs.declared.words.Template.TheVariants.{Standard, Light}

-- ---- numbers
abbrev pub are_digits : List ℕ → Bool
are_digits bytes = list_all is_ascii_digit bytes

-- 1 to 20 digits; zeros may stand first
abbrev pub is_numeral : List ℕ → Bool
is_numeral word = nat_le 1 (length word) && nat_le (length word) 20 && are_digits word

-- the value of such a word, up to 2 ^ 64 - 1
abbrev pub number_in : List ℕ → Option ℕ
number_in word = if is_numeral word && nat_lt (digits_value 10 word) (2 ^ 64) then Some (digits_value 10 word) else None

-- ---- options
abbrev pub text_of : OptionName → List ℕ
text_of option_name.Config = codes "--config"
text_of Seed = codes "--seed"
text_of ClassRegion = codes "--class-region"
text_of LargeSpace = codes "--large-space"

-- whole pages, from 1 MiB to so many bytes
abbrev pub is_space : ℕ → ℕ → Bool
is_space most n = n % 4096 == 0 && nat_le 1048576 n && nat_le n most

-- the numbers that an option may have as its value; the value of `--config` is none
abbrev pub is_number : OptionName → ℕ → Bool
is_number option_name.Config n = false
is_number Seed n = true
is_number ClassRegion n = is_space 34359738368 n
is_number LargeSpace n = is_space 1099511627776 n

-- the number that a word gives to an option, if it may
abbrev pub value_of : OptionName → List ℕ → Option ℕ
value_of option word = option_and_then (λ n. if is_number option n then Some n else None) (number_in word)

-- the configuration of which the word is the name
abbrev pub template_in : List ℕ → Option Template
template_in word =
    if is_word word (codes "standard") then Some Standard
    else if is_word word (codes "light") then Some Light
    else None

-- the word may be the option's value: a name for `--config`, a number for each other
abbrev pub is_value : OptionName → List ℕ → Bool
is_value option_name.Config word = is_some (template_in word)
is_value option word = is_some (value_of option word)

-- the word is this option
abbrev pub names : OptionName → List ℕ → Bool
names option word = is_word word (text_of option)

-- ---- pairs of an option and its value
abbrev pub is_given : OptionName → List (String Global) → Bool
is_given option [] = false
is_given option (word ∷ []) = false
is_given option (word ∷ value ∷ words) = names option (string_bytes word) || is_given option words

-- the word behind an option
abbrev pub behind : OptionName → List (String Global) → Option (List ℕ)
behind option [] = None
behind option (word ∷ []) = None
behind option (word ∷ value ∷ words) =
    if names option (string_bytes word) then Some (string_bytes value) else behind option words

-- the word is this option, its value may be the option's, and the option does not come again
abbrev pub is_option : OptionName → List ℕ → List ℕ → List (String Global) → Bool
is_option option word value after = names option word && is_value option value && not (is_given option after)

-- each option at most once
abbrev pub are_options : List (String Global) → Bool
are_options [] = true
are_options (word ∷ []) = false
are_options (word ∷ value ∷ words) =
    (is_option option_name.Config (string_bytes word) (string_bytes value) words
    || is_option Seed (string_bytes word) (string_bytes value) words
    || is_option ClassRegion (string_bytes word) (string_bytes value) words
    || is_option LargeSpace (string_bytes word) (string_bytes value) words)
    && are_options words

-- ---- words
-- the configuration named behind `--config`, or the standard one
abbrev pub template_of : List (String Global) → Template
template_of words = unwrap_or (option_and_then template_in (behind option_name.Config words)) Standard

-- the number behind an option, or what stands where there is none
abbrev pub number_of : OptionName → List (String Global) → ℕ → ℕ
number_of option words other = unwrap_or (option_and_then (value_of option) (behind option words)) other

-- the values of the options, and those that stand where an option is not given
abbrev pub options_in : List (String Global) → Options
options_in words = record {
  template = template_of words;
  seed = number_of Seed words 0;
  class_region = number_of ClassRegion words 34359738368;
  large_space = number_of LargeSpace words 1099511627776;
}

abbrev pub with_options : Command → List (String Global) → Option Asked
with_options command words =
    if are_options words then Some (record { command = command; options = options_in words }) else None

-- behind `stress`: a seed, and then options
abbrev pub stress_in : List (String Global) → Option Asked
stress_in [] = None
stress_in (word ∷ words) =
    option_and_then (λ seed. with_options (Stress seed) words) (number_in (string_bytes word))

-- behind `check`: nothing
abbrev pub check_in : List (String Global) → Option Asked
check_in [] = with_options Check []
check_in (word ∷ words) = None

-- what is written of a source's trace, as the first word asks
abbrev pub output_in : List ℕ → Option Output
output_in word =
    if is_word word (codes "run") then Some Report
    else if is_word word (codes "journal") then Some Journal
    else if is_word word (codes "stats") then Some Stats
    else if is_word word (codes "watch") then Some Watch
    else None

-- the rounds are watched for it
abbrev pub is_watched : Output → Bool
is_watched Watch = true
is_watched output = false

-- `stress` and a seed, or a word that asks for an output, and then options; or `check` alone. Other words are not
-- accepted
abbrev pub asked_in : List (String Global) → Option Asked
asked_in [] = None
asked_in (word ∷ words) =
    if is_word (string_bytes word) (codes "stress") then stress_in words
    else if is_word (string_bytes word) (codes "check") then check_in words
    else option_and_then (λ output. with_options (Run output) words) (output_in (string_bytes word))

-- they ask for the run of a source; for the check of one; or for the run of the stress trace of a seed
abbrev pub AsksRun : List (String Global) → Type 0
AsksRun words =
    (options : Options) × (output : Output)
    × (asked_in words ≡ Some (record { command = Run output; options = options }))

abbrev pub AsksCheck : List (String Global) → Type 0
AsksCheck words = (options : Options) × (asked_in words ≡ Some (record { command = Check; options = options }))

abbrev pub AsksStress : List (String Global) → Type 0
AsksStress words =
    (options : Options) × (seed : ℕ)
    × (asked_in words ≡ Some (record { command = Stress seed; options = options }))

-- they ask for something of a source: its run, or its check
abbrev pub AsksSource : List (String Global) → Type 0
AsksSource words = AsksRun words ⊎ AsksCheck words

-- they ask for the report of a source's trace
abbrev pub AsksReport : List (String Global) → Type 0
AsksReport words = (options : Options) × (asked_in words ≡ Some (record { command = Run Report; options = options }))

-- they ask for the journal of a source's trace, with these options
abbrev pub AsksJournal : List (String Global) → Options → Type 0
AsksJournal words options = asked_in words ≡ Some (record { command = Run Journal; options = options })

-- what holds where a command asks for the stress trace of a seed
abbrev pub IfMade : Command → Type 0 → Type 0
IfMade (Run output) claim = ⊤
IfMade Check claim = ⊤
IfMade (Stress seed) claim = claim

-- what holds where no source is asked for: the words are not accepted, or ask for the stress trace of a seed
abbrev pub IfUnasked : Option Asked → Type 0 → Type 0
IfUnasked None claim = claim
IfUnasked (Some asked) claim = IfMade asked.command claim

-- the configuration of this name
abbrev pub named : Template → Config
named Standard = standard
named Light = light

-- the configuration that they ask for: that of the name, with their sizes of the address space
abbrev pub config_of : Options → Config
config_of o = record (named o.template) { class_region = o.class_region; large_space = o.large_space }
