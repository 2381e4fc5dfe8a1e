-- Options that are accepted ask for a valid configuration.
use Rattle.std.proofs.Common.{◌≡◌, ℕ, ◌%◌, ◌≤◌, Bool, true, false, cond, ◌&&◌, ◌==◌, nat_le, List, Option, Some, None, unwrap_or, String, Global, refl, sym, subst, arith}
use Rattle.std.specs.Prelude.{option_and_then, IfSome}
use Rattle.std.proofs.lemmas.Bool.{and_parts}
use Rattle.std.proofs.lemmas.Bool.Decides.{nat_tests}
use Rattle.hm_sizes.specs.Configs.{IsValid}
use Rattle.hm_run.specs.declared.words.OptionName.{OptionName}
use Rattle.hm_run.specs.declared.words.OptionName.TheVariants.{ClassRegion, LargeSpace}
use Rattle.hm_run.specs.declared.words.Template.{Template}
use Rattle.hm_run.specs.declared.words.Template.TheVariants.{Standard, Light}
use Rattle.hm_run.specs.Words.{is_space, is_number, value_of, number_in, behind, number_of, config_of}

value_is : (option : OptionName) (n : ℕ) → IfSome (cond (is_number option n) (Some n) None) (λ (m : ℕ). is_number option m ≡ true)
value_is option n = by (is_number option n) refl
  where
    by : (b : Bool) → b ≡ is_number option n → IfSome (cond b (Some n) None) (λ (m : ℕ). is_number option m ≡ true)
    by true is = sym is
    by false is = tt

value_in : (option : OptionName) (o : Option ℕ) → IfSome (option_and_then (λ (n : ℕ). cond (is_number option n) (Some n) None) o) (λ (m : ℕ). is_number option m ≡ true)
value_in option None = tt
value_in option (Some n) = value_is option n

-- what is there, or what stands where nothing is
or_else : (option : OptionName) (o : Option ℕ) (other : ℕ) → IfSome o (λ (m : ℕ). is_number option m ≡ true) → is_number option other ≡ true → is_number option (unwrap_or o other) ≡ true
or_else option None other is else = else
or_else option (Some n) other is else = is

number_at : (option : OptionName) (o : Option (List ℕ)) (other : ℕ) → is_number option other ≡ true → is_number option (unwrap_or (option_and_then (value_of option) o) other) ≡ true
number_at option None other else = else
number_at option (Some word) other else = or_else option (value_of option word) other (value_in option (number_in word)) else

record IsSpace (most n : ℕ) : Type 0 where
  pages : n % 4096 ≡ 0
  least : 1048576 ≤ n
  most_is : n ≤ most

space : (most n : ℕ) → is_space most n ≡ true → IsSpace most n
space most n is =
    let outer = and_parts (n % 4096 == 0 && nat_le 1048576 n) (nat_le n most) is in
    let inner = and_parts (n % 4096 == 0) (nat_le 1048576 n) outer.0 in
    record { pages = zero_from (n % 4096) inner.0; least = le_from 1048576 n inner.1; most_is = le_from n most outer.1 }
  where
    zero_from : (k : ℕ) → (k == 0) ≡ true → k ≡ 0
    zero_from k e = grind (arith, nat_tests)

    le_from : (m k : ℕ) → nat_le m k ≡ true → m ≤ k
    le_from m k e = grind (arith, nat_tests)

-- what a named configuration may have
in_range : (class_region large_space guard_interval array_base ring_base : ℕ) (check_reuse random_slots : Bool) → IsSpace 34359738368 class_region → IsSpace 1099511627776 large_space
    → 1 ≤ guard_interval → guard_interval ≤ 8 → array_base ≤ 1 → ring_base ≤ 1
    → IsValid (record {
      arenas = 4;
      class_region = class_region;
      large_space = large_space;
      guard_interval = guard_interval;
      array_base = array_base;
      ring_base = ring_base;
      park_length = 32;
      check_reuse = check_reuse;
      random_slots = random_slots;
    })
in_range class_region large_space guard_interval array_base ring_base check_reuse random_slots region large some most array_most ring_most = record {
  arenas_some = omega arith;
  arenas_most = omega arith;
  region_pages = region.pages;
  region_least = region.least;
  region_most = region.most_is;
  space_pages = large.pages;
  space_least = large.least;
  space_most = large.most_is;
  guards_some = some;
  guards_most = most;
  array_most = array_most;
  ring_most = ring_most;
  park_some = omega arith;
  park_most = omega arith;
}

named_valid : (template : Template) (seed class_region large_space : ℕ) → IsSpace 34359738368 class_region → IsSpace 1099511627776 large_space
    → IsValid (config_of (record { template = template; seed = seed; class_region = class_region; large_space = large_space }))
named_valid Standard seed class_region large_space region large = in_range class_region large_space 1 1 1 true true region large (omega arith) (omega arith) (omega arith) (omega arith)
named_valid Light seed class_region large_space region large = in_range class_region large_space 8 0 0 false false region large (omega arith) (omega arith) (omega arith) (omega arith)

pub valid : (words : List (String Global)) (template : Template) (seed class_region large_space : ℕ) → class_region ≡ number_of ClassRegion words 34359738368
    → large_space ≡ number_of LargeSpace words 1099511627776
    → IsValid (config_of (record { template = template; seed = seed; class_region = class_region; large_space = large_space }))
valid words template seed class_region large_space region_is large_is =
    named_valid template seed class_region large_space
    (space 34359738368 class_region
    (subst (λ (n : ℕ). is_number ClassRegion n ≡ true) (sym region_is) (number_at ClassRegion (behind ClassRegion words) 34359738368 refl)))
    (space 1099511627776 large_space
    (subst (λ (n : ℕ). is_number LargeSpace n ≡ true) (sym large_is) (number_at LargeSpace (behind LargeSpace words) 1099511627776 refl)))
