use Rattle.std.proofs.Common.{◌≡◌, ℕ, ◌==◌, Bool, true, false, cond, option_map, Option, Some, None, inl, inr, sym, ◌∙◌, ap, refl}
use Rattle.std.proofs.lemmas.Bool.{eq-eqb, ne_eqb}
use Rattle.hm_sizes.specs.Sizes.{block_size}
use Rattle.hm_region_table.specs.declared.entry.Block.{Block as KeptBlock}
use Rattle.hm_large_rules.specs.State.{Block}
use Rattle.hm_large.specs.Kept.{kept_of}
use Rattle.hm_large_rules.specs.Rules.{wrong_size}
use Rattle.hm_large.proofs.judge.judge.Goals as goal

none_mapped : (o : Option Block) → None ≡ option_map (kept_of false) o → o ≡ None
none_mapped None e = refl
none_mapped (Some x) e = cc

some_mapped : (k : KeptBlock) (o : Option Block) → Some k ≡ option_map (kept_of false) o → (x : Block) × (o ≡ Some x) × (k ≡ kept_of false x)
some_mapped k None e = cc
some_mapped k (Some x) e = (x, refl, (let h : k ≡ kept_of false x = cc in h))

pub returns-in_default : goal.returns-in_default
returns-in_default c = λ config n s shows. inl (refl, none_mapped _ (c.in_default.ensures config n s shows))

-- the sizes that are compared
compared : (x : Block) (size block stated : ℕ) (t : Bool) → block ≡ x.size → stated ≡ block_size size → (stated == block) ≡ t → wrong_size (Some x) (Some size) ≡ cond t None (Some (block, stated))
compared x size block stated t is size_is same =
    ap (λ (p : ℕ). cond (p == x.size) None (Some (x.size, p))) (sym size_is) ∙ (ap (λ (p : ℕ). cond (stated == p) None (Some (p, stated))) (sym is) ∙ ap (λ v. cond v None (Some (block, stated))) same)

pub returns-in_default-stated : goal.returns-in_default-stated
returns-in_default-stated c =
    λ config n s shows. let m = some_mapped c.in-Some.block _ (c.in-Some.ensures config n s shows) in
    (m.0, m.1, m.2, ap (λ (o : Option Block). wrong_size o c.args.stated) m.1 ∙ ap (wrong_size (Some m.0)) c.in_default-stated.is)

pub returns-then-stated-block : goal.returns-then-stated-block
returns-then-stated-block c =
    λ config n s shows. let m = some_mapped c.in-Some.block _ (c.in-Some.ensures config n s shows) in (
      m.0,
      m.1,
      m.2,
      ap (λ (o : Option Block). wrong_size o c.args.stated) m.1 ∙ (ap (wrong_size (Some m.0)) c.in-Some-stated.is
          ∙ compared m.0 c.in-Some-stated.size c.in-Some.block.size c.block_size-stated.result true (ap (λ (k : KeptBlock). k.size) m.2) c.block_size-stated.ensures (eq-eqb c.block_size-stated.result c.in-Some.block.size c.if-stated-block.true)),
    )

pub returns-else-stated-block : goal.returns-else-stated-block
returns-else-stated-block c =
    λ config n s shows. let m = some_mapped c.in-Some.block _ (c.in-Some.ensures config n s shows) in
    inr (
      c.in-Some.block.size,
      c.block_size-stated.result,
      refl,
      ap (λ (o : Option Block). wrong_size o c.args.stated) m.1 ∙ (ap (wrong_size (Some m.0)) c.in-Some-stated.is
          ∙ compared m.0 c.in-Some-stated.size c.in-Some.block.size c.block_size-stated.result false (ap (λ (k : KeptBlock). k.size) m.2) c.block_size-stated.ensures (ne_eqb c.block_size-stated.result c.in-Some.block.size c.if-stated-block.false)),
    )
