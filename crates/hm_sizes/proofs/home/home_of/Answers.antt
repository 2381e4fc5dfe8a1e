use Rattle.std.proofs.Common.{◌≡◌, ℕ, ◌-◌, ◌*◌, ◌/◌, ◌^◌, ap, refl, subst}
use Rattle.hm_base.specs.declared.region.RegionId.{RegionId}
use Rattle.hm_sizes.specs.declared.home.Home.TheVariants.{Class}
use Rattle.hm_sizes.specs.Homes.{IsInRegion}
use Rattle.hm_sizes.proofs.Ranges.{number_of, range_found, no_range, not_in_space}
use Rattle.hm_sizes.proofs.home.home_of.Goals as goal

pub returns-then-contains-clause-class : goal.returns-then-contains-clause-class
returns-then-contains-clause-class c region =
    let config = c.args.config.now in
    let here = range_found config c.from-regions.result c.args.addr c.contains.result c.requires c.from-regions.ensures c.contains.ensures.value c.if-contains.true in (
      λ e. let same : record { 0 = (c.args.addr - 2 ^ 40) / (2 * config.class_region) } ≡ region = cc in
          subst (λ (x : RegionId). IsInRegion config x.0 c.args.addr) same here,
      λ h. ap (λ (n : ℕ). Class (record { 0 = n })) (number_of config region.0 c.args.addr h),
    )

pub returns-then-contains-clause-outside : goal.returns-then-contains-clause-outside
returns-then-contains-clause-outside c =
    let config = c.args.config.now in
    let here = range_found config c.from-regions.result c.args.addr c.contains.result c.requires c.from-regions.ensures c.contains.ensures.value c.if-contains.true in
    (λ e. cc, λ h. absurd (h.no_class _ here))

pub returns-else-contains-2-clause-class : goal.returns-else-contains-2-clause-class
returns-else-contains-2-clause-class c region = (
  λ e. cc,
  λ h. absurd
      (no_range c.args.config.now c.from-regions.result c.args.addr c.contains.result c.from-regions.ensures c.contains.ensures.value c.if-contains.false region.0 h),
)

pub returns-else-contains-2-clause-outside : goal.returns-else-contains-2-clause-outside
returns-else-contains-2-clause-outside c = (
  λ e. record {
    no_class = λ region h.
        no_range c.args.config.now c.from-regions.result c.args.addr c.contains.result c.from-regions.ensures c.contains.ensures.value c.if-contains.false region h;
    not_large = λ h.
        not_in_space c.args.config.now c.args.addr c.contains-else-contains.result c.contains-else-contains.ensures.value c.if-contains-2.false h;
  },
  λ h. refl,
)
