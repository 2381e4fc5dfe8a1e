-- `allocate` asks the allocator for bytes: nothing is written, and all of the block is room. Assumes `Logic`.
use Rattle.std.proofs.Common.{◌≡◌, ℕ, ◌*◌, ◌<◌, ◌^◌, List, [], ◌∷◌, ◌++◌, length, refl, ◌∙◌, arith, lit<, w64, replicate, Option, Some, None}
use mir.Syntax.{Ty, Fn, Args, a_type, dcons, dnil}
use mir.Val.{Val, vint, vptr, vcons, vnil}
use mir.MapTy.{inst_fn}
use base.Logic.{SProp, emp, id⊢}
use base.Fml.{Lft, Share, ftrue, flft}
use Rattle.std.proofs.lemmas.List.{length-replicate}
use prog.Capped.{capped_is}
use prog.Wp.{Env, WpFn}
use contract.BorrowLft.{◌⊑◌, ⊑_trans}
use contract.Monad.{fact, fact_i}
use contract.Running.{tables}
use types.Kit.{‵, raw, ◌⊛◌, later, prop, at_ret, ◌$◌, ◌∵◌, !, qed, by, move, drop, use0, use1, use2, use3, split, join, regoal, fsplit, fjoin, flt_i, await}
use types.Part.{whole, agg}
use types.Match.{live, vrt, in_variant}
use types.Run.{stop, fld, lit, of_opd, no_more, and_then, first, switches_on, exec, returns, enter}
use types.ByLocal.{alloc_all, pass_all, free_all, look_at, get, get_in, get_tag, sets, sets_last, lands_as, env}
use denote.RattleType.{RattleType, owns}
use denote.RawPtr.{Ptr, block_ptr}
use denote.Param.{param, bounded}
use denote.Signature.{types_at, type_at}
use denote.Steps.{nothing, heard}
use denote.Struct.Tuple.{Tuple}
use denote.Triple.Entry.{alive}
use denote.Triple.Call.{calls_at}
use denote.Triple.Walked.{Stays, stay_dropped, walk_of, Goes-dropped}
use Rattle.core.proofs.alloc.Calls.{Al, seen, Takes, at_takes, Answered, Takes-goes, Takes-gives, answers}
use Rattle.core.proofs.alloc.Shapes.{after, head, arm_body}
use Rattle.core.proofs.atomic.Steps.{fm}
use Rattle.core.proofs.option.Made.{Some-of, none_of}
use Rattle.std.proofs.raw_atomic.Walks.{proved_at, leaves}
use Rattle.circular_buffer.proofs.Memory.{three_val, three_of}
use Rattle.linked_list_allocator.proofs.Walks.{slot_at, then_runs}
use Rattle.hm_frames.proofs.Memory.{start_val, start_own, start_made, contents_val, contents_own_val, contents_made, lease_val, lease_own, lease_made, of_room}
use Rattle.hm_frames.specs.Ownership.{bytes_type, row_own}
use Rattle.hm_frames.specs.contracts.block.Start as start
use Rattle.hm_frames.specs.contracts.block.Contents as contents
use Rattle.hm_frames.specs.contracts.block.Lease as lease
use Rattle.hm_frames.specs.contracts.block.allocate.{ended, clauses}
use Rattle.hm_frames.specs.contracts.block.allocate.Key.{name as #self}
use Rattle.hm_frames.proofs.block.allocate.Statement.{statement}
use Rattle.hm_frames.proofs.block.allocate.Code as compiled

pub allocate_spec : {M : Type 1} → statement M
allocate_spec 𝓤 𝓛 𝓜 𝓡 wired A L g d dd met md =
    let H = 𝓛.H in
    let En₀ = ended A g d dd in
    let c = clauses A g d dd 𝓛 𝓜.mem 𝓡.returns in
    let args : Args = bounded (a_type ∷ []) (A, tt) (dcons d (dcons dd dnil)) in
    let fn : Fn = inst_fn args compiled.function in
    let stays : Stays En₀.signature.params En₀.kept = (stay_dropped (slot_at 0 En₀.signature.params) En₀.kept.0, (stay_dropped (slot_at 1 En₀.signature.params) En₀.kept.1.0, tt)) in
    let C = (tables 𝓤 H 𝓜 𝓡 𝓡.env).C in
    let Λ = (tables 𝓤 H 𝓜 𝓡 𝓡.env).Λ in
    proved_at 𝓛 En₀ stays c 𝓜 𝓡 (Goes-dropped 𝓛 2 (slot_at 0 En₀.signature.params) En₀.kept.0 (λ κs x f. refl), (Goes-dropped 𝓛 2 (slot_at 1 En₀.signature.params) En₀.kept.1.0 (λ κs x f. refl), tt))
    (#self args) fn (compiled.unfolded 𝓤 H 𝓜 𝓡 wired (A, tt) d dd) (λ z are.
    let Post : Val → SProp 𝓤 = (walk_of 𝓛 En₀ stays c).post z in
    let a = z.0.3 in let vss = z.0.4 in
    let Y : Al = record { row = A; laws = L; g = g; d = d; drops = dd } in
    let κ : Lft = z.0.0.0 in let q : Share = z.0.1.0 in
    let Z : RattleType = param 0 A in
    let h = a.0.now in let at = a.0.ref_ptr in let n = a.1.0 in
    let τ : Ty = bytes_type n in
    let y = at_takes Y 𝓛 𝓜.mem 𝓡.returns κ q at h n 1 τ in
    let Out : RattleType = type_at En₀.signature.result z.0.0 in
    let Three : RattleType = Tuple (start.the_row ∷ contents.the_row ∷ lease.the_row Z g ∷ []) in
    let Asked : Type 0 = n < 2 ^ 63 in
    qed 𝓛 ((raw (alive 𝓛 En₀.signature z.0.0 z.0.1) ⊛ ‵ (owns (types_at En₀.signature.params z.0.0) a vss)) ∷ (raw (fact 𝓤 (z.0.0.1.0 ⊑ A.lives)) ⊛ raw (fact 𝓤 Asked)) ∷ []) ∵
    move ! (1 ∷ []) $ split ! $ heard ! (z.0.0.1.0 ⊑ A.lives) (λ le. heard ! Asked (λ small. split ! $ move ! (1 ∷ []) $
    fsplit ! $ fsplit ! $ drop ! $ move ! (1 ∷ []) $ drop ! $ use1 𝓛 (‵ (seen Y κ at h)) (id⊢ 𝓤 _) $ move ! (1 ∷ []) $
    use1 𝓛 (‵ (flft κ q) ⊛ ‵ (flft z.0.0.1.0 z.0.1.1.0) ⊛ ‵ ftrue) (id⊢ 𝓤 _) $ split ! $ move ! (2 ∷ 0 ∷ []) $
    -- [the handle; its token; the other tokens]
    regoal ! (λ (us : List Val). prop (WpFn 𝓤 H C Λ fn us Post)) (λ i. are.0.0 i ++ (are.1.0.0 i ++ [])) refl $
    enter ! C Λ fn (vptr at.0 at.1 ∷ vint w64 n ∷ []) Post $
    alloc_all ! (λ l. pass_all ! refl ((tt, tt), ((tt, record { fits = are.1.0.1 }), tt)) $ let En : Env 𝓤 𝓛.H = env fn.locals l in
    use2 𝓛 (raw ((Takes Y 𝓛 𝓜.mem 𝓡.returns).pre y)) (Takes-goes Y 𝓛 𝓜.mem 𝓡.returns κ q at h (⊑_trans κ z.0.0.1.0 A.lives z.0.2.0 le) n 1 τ (capped_is (n * 1) (omega (arith, small)) ∙ omega arith) refl are.1.0.1 (lit< tt)) $
    calls_at ! (fm 𝓛 𝓜 𝓡) (Takes Y 𝓛 𝓜.mem 𝓡.returns) (met.allocate dd) y (and_then ! (get ! refl) (and_then ! (get ! refl) (and_then ! (lit ! tt) (no_more !)))) (λ v.
    use1 𝓛 (later (raw (Answered Y 𝓛 𝓜.mem 𝓡.returns h τ v) ⊛ ‵ (flft κ q))) (Takes-gives Y 𝓛 𝓜.mem 𝓡.returns κ q at h n 1 τ v) $ await ! tt $ split ! $
    answers Y ! 𝓜.mem 𝓡.returns h τ v
    (λ b o e. move ! (2 ∷ 3 ∷ []) $ join ! $ move ! (1 ∷ 2 ∷ []) $ lands_as ! (e) refl (tt, (record { fits = lit< tt }, (tt, tt))) $
    -- [the block; the token that gives it back; the lifetimes' tokens]
    first ! $ switches_on ! (get_tag ! (vrt ! refl (fld ! refl (stop !))) (whole !)) $ exec ! C Λ En (arm_body 0 (head (after 1 fn.body))) (then_runs 𝓛 C Λ En (after 2 fn.body) (at_ret En Post)) $
    sets ! (of_opd ! (get_in ! (vrt ! refl (fld ! refl (stop !))) (in_variant ! 0 0 refl refl (whole !)))) refl (tt, tt) $
    sets ! (agg ! (and_then ! (get ! refl) (no_more !))) refl (tt, (tt, tt)) $
    sets ! (agg ! (no_more !)) refl (tt, tt) $
    sets ! (agg ! (no_more !)) refl (tt, tt) $
    sets ! (agg ! (and_then ! (get ! refl) (no_more !))) refl (tt, (tt, tt)) $
    sets ! (agg ! (and_then ! (get ! refl) (and_then ! (get ! refl) (and_then ! (get ! refl) (no_more !))))) refl (tt, ((tt, tt), (tt, ((tt, tt), tt)))) $
    sets_last ! (agg ! (and_then ! (lit ! tt) (and_then ! (get ! refl) (no_more !)))) refl (tt, (record { fits = lit< tt }, (((tt, tt), (tt, ((tt, tt), tt))), tt))) $
    exec ! C Λ En (after 2 fn.body) (at_ret En Post) $
    sets ! (of_opd ! (get ! refl)) refl (tt, (record { fits = lit< tt }, (((tt, tt), (tt, ((tt, tt), tt))), tt))) $
    returns ! (look_at ! 0 refl) $ free_all ! refl $
    let p : Ptr = block_ptr b o in
    let x : (start.the_row).Denot = record { ptr = p } in
    let k : (contents.the_row).Denot = record { at = p; raw_cells = replicate n None } in
    let t : (lease.the_row Z g).Denot = record { mark = record {}; at = p; len = n; alloc = h } in
    let v : Val = three_val (start_val p) contents_val lease_val in
    use1 𝓛 (‵ (row_own b o (replicate n None))) (of_room 𝓛 n b o) $ flt_i ! (length k.raw_cells) (2 ^ 63) (omega (arith, small, length-replicate {A = Option ℕ} n None)) $ fjoin ! $
    use0 𝓛 (‵ (contents_own_val (contents_val ∷ []))) (contents_made 𝓛) $ fjoin ! $ move ! (1 ∷ []) $
    use0 𝓛 (‵ (lease_own (lease_val ∷ []))) (lease_made 𝓛) $ fjoin ! $ move ! (1 ∷ 0 ∷ []) $
    use0 𝓛 (‵ (start_own p (start_val p ∷ []))) (start_made 𝓛 p) $
    use3 𝓛 (‵ (Three.own_val (x, k, t) (v ∷ []))) (three_of 𝓛 (start.the_row) (contents.the_row) (lease.the_row Z g) x k t (start_val p) contents_val lease_val) $
    use1 𝓛 (‵ (Out.own_val (Some (x, k, t)) (live 1 (vcons v vnil) ∷ []))) (Some-of 𝓛 Three (x, k, t) v) $
    use0 𝓛 (raw (fact 𝓤 ((p ≡ p) × (k.raw_cells ≡ replicate n None) × (p ≡ p) × (n ≡ n) × (h ≡ h)))) (fact_i 𝓤 ((p ≡ p) × (k.raw_cells ≡ replicate n None) × (p ≡ p) × (n ≡ n) × (h ≡ h)) (emp 𝓤) (refl, refl, refl, refl, refl)) $
    nothing ! $ nothing ! $ fjoin ! $ nothing ! $ fjoin ! $ move ! (3 ∷ 0 ∷ 2 ∷ 1 ∷ []) $
    by ! (leaves 𝓛 En₀ stays c z (live 1 (vcons v vnil)) (Some (x, k, t)) (tt, (tt, tt)) (tt, (tt, tt))))
    (λ e. join ! $ lands_as ! (e) refl (tt, (record { fits = lit< tt }, (tt, tt))) $
    first ! $ switches_on ! (get_tag ! (vrt ! refl (fld ! refl (stop !))) (whole !)) $ exec ! C Λ En (arm_body 1 (head (after 1 fn.body))) (then_runs 𝓛 C Λ En (after 2 fn.body) (at_ret En Post)) $
    sets_last ! (agg ! (and_then ! (lit ! tt) (no_more !))) refl (tt, (record { fits = lit< tt }, tt)) $
    exec ! C Λ En (after 2 fn.body) (at_ret En Post) $
    sets ! (of_opd ! (get ! refl)) refl (tt, (record { fits = lit< tt }, tt)) $
    returns ! (look_at ! 0 refl) $ free_all ! refl $
    use0 𝓛 (‵ (Out.own_val None (live 0 vnil ∷ []))) (none_of 𝓛 Three) $ use0 𝓛 (raw (fact 𝓤 (Unit {0}))) (fact_i 𝓤 (Unit {0}) (emp 𝓤) (tt)) $ nothing ! $ nothing ! $ fjoin ! $ nothing ! $ fjoin ! $ move ! (3 ∷ 0 ∷ 2 ∷ 1 ∷ []) $
    by ! (leaves 𝓛 En₀ stays c z (live 0 vnil) (None) (tt, (tt, tt)) (tt, (tt, tt)))))))))
