-- `part_mut` lends a part of the bytes, and the contents follow it. Assumes `Logic`.
use Rattle.std.proofs.Common.{◌≡◌, ℕ, ◌+◌, ◌*◌, ◌<◌, ◌^◌, List, [], ◌∷◌, ◌++◌, map, length, take, drop as drop_l, Option, Some, refl, sym, ap, ◌∙◌, arith, w64}
use Rattle.std.proofs.lemmas.List.{length-append, length-take, length-drop, length-map}
use Rattle.std.specs.List.{refill}
use lib.Seq.{take_at as take_front}
use seplogic.Ra.Ura.{Ura}
use base.Fraction.{full_share}
use mir.Syntax.{Fn, named}
use mir.Val.{Val, vptr, vint}
use base.Logic.{SProp, ent, sep, id⊢, never}
use base.Fml.{Lft, Share, GName, Fml, ftrue, fsep, fat, flft}
use prog.Wp.{Env, WpFn}
use types.Logic.{Logic, sem}
use types.SemTy.{cells}
use contract.Monad.{fact}
use contract.Running.{tables}
use types.Kit.{‵, raw, ◌⊛◌, some, later, await, pick, prop, at_ret, ◌$◌, ◌∵◌, !, qed, move, keep, drop, use1, use2, split, join, group, frame, regoal, rewrite, fsplit, fsplit3, fjoin, fpack, flt_l, flt_i, suffices, done}
use types.Part.{whole, sub, agg}
use types.Run.{stop, fld, bin, of_opd, and_then, no_more, first, blocks, exec, returns, enter}
use types.ByLocal.{alloc_all, pass_all, free_all, look_at, get, get_in, sets, sets_last, take_at, give_at, env}
use denote.RattleType.{RattleType, owns}
use denote.Builtin.{u8}
use denote.Follow.{follows}
use denote.FollowSlice.{Elements, lends_Elements}
use denote.Array.{Array}
use denote.Memory.{mem, cell_at, part_of}
use denote.Param.{layout}
use denote.RawPtr.{Ptr, block_ptr, in_a_block}
use denote.Ref.{MutBor}
use denote.Signature.{plain, mut_ref_to, types_at}
use denote.Slice.{MutSlice, slice_val}
use denote.Steps.{nothing, heard, opens}
use denote.Triple.Walked.{Stays, says, stay_dropped, walk_of, ends_at, Goes-dropped, Goes-spent_ref}
use Rattle.core.proofs.alloc.Shapes.{after}
use Rattle.std.proofs.raw_atomic.Walks.{proved_at}
use Rattle.hm_frames.specs.Ownership.{row_own, contents_own}
use Rattle.hm_frames.specs.RawCells.{IsFilled, byte_of, bytes_of}
use Rattle.hm_frames.specs.ContentsLends.{over}
use Rattle.hm_frames.specs.contracts.block.Contents as contents
use Rattle.hm_frames.specs.contracts.block.Start as start
use Rattle.hm_frames.specs.contracts.block.Contents.part_mut as f
use Rattle.linked_list_allocator.proofs.Walks.{slot_at}
use Rattle.hm_frames.proofs.Memory.{start_val, start_told, start_typed, contents_own_val, Around, part_out, part_in, as_cells, of_cells}
use Rattle.hm_frames.proofs.block.Contents.part_mut.Statement.{statement}
use Rattle.hm_frames.proofs.block.Contents.part_mut.Code as code

abbrev Cr : RattleType
Cr = contents.the_row

abbrev stays : Stays f.ended.signature.params f.ended.kept
stays = (
  stay_dropped (mut_ref_to (0 ∷ []) tt (plain (λ _. Cr))) f.ended.kept.0,
  (
    stay_dropped (slot_at 1 f.ended.signature.params) f.ended.kept.1.0,
    (stay_dropped (slot_at 2 f.ended.signature.params) f.ended.kept.1.1.0, (stay_dropped (slot_at 3 f.ended.signature.params) f.ended.kept.1.1.1.0, tt)),
  ),
)

module _ {M : Type 1} {𝓤 : Ura M} (𝓛 : Logic 𝓤) (rb ro : ℕ) (d : Cr.Denot) (from len : ℕ) (vs : List Val) (b o : ℕ) (filled : IsFilled d.raw_cells from len) where
  -- all but the part
  abbrev Rest : Fml
  Rest = fsep (Around 𝓛 b o d.raw_cells from len filled.within) (fsep (contents_own_val vs) (cell_at full_share Cr.mir vs rb ro))

  back : d.at ≡ block_ptr b o → length d.raw_cells < 2 ^ 63 → (ws : List ℕ) → length ws ≡ length (take len (drop_l from (bytes_of d.raw_cells)))
      → ent 𝓤 (sep 𝓤 (sem 𝓛 (cells (mem u8) ws b (from + o))) (sem 𝓛 Rest)) (sem 𝓛 ((mem Cr).own_at (over d from len ws) rb ro))
  unfolding part_of
  back e small ws same =
      let xs = d.raw_cells in let old = take len (drop_l from (bytes_of xs)) in let rest = drop_l (from + len) xs in let new = over d from len ws in
      let le = filled.within in
      let count : length old ≡ len = omega (arith, le, length-take len (drop_l from (bytes_of xs)), length-drop from (bytes_of xs), length-map xs byte_of) in
      let all : refill len old ws ≡ ws = take_front ws (drop_l (length ws) old) len (same ∙ count) in
      let long : length new.raw_cells ≡ length xs = ap (λ l. length (take from xs ++ (map Some l ++ rest))) all
      ∙ omega (arith, le, same, count, length-append (take from xs) (map Some ws ++ rest), length-append (map Some ws) rest, length-map ws Some, length-take from xs, length-drop (from + len) xs) in
      qed 𝓛 (‵ (cells (mem u8) ws b (from + o)) ∷ ‵ Rest ∷ []) ∵ use1 𝓛 (‵ (row_own b (from + o) (map Some ws))) (of_cells 𝓛 ws b (from + o)) $
      move ! (1 ∷ []) $ fsplit3 ! $ move ! (3 ∷ 0 ∷ []) $
      use2 𝓛 (‵ (row_own b o (take from xs ++ (map Some ws ++ rest)))) (part_in 𝓛 b o xs from len le (map Some ws) (omega (arith, same, count, length-map ws Some))) $
      rewrite ! 0 (λ (l : List ℕ). ‵ (row_own b o (take from xs ++ (map Some l ++ rest)))) (sym all) refl $
      -- [the raw_cells; the fields; the cell]
      flt_i ! (length new.raw_cells) (2 ^ 63) (omega (arith, small, long)) $ fjoin ! $
      rewrite ! 0 (λ (p : Ptr). ‵ (contents_own p new.raw_cells)) (sym e) refl $ move ! (1 ∷ 0 ∷ []) $ fjoin ! $ move ! (1 ∷ 0 ∷ []) $ fjoin ! $
      fpack ! (List Val) (λ us. fsep (cell_at full_share Cr.mir us rb ro) (Cr.own_val new us)) vs $ done !

pub part_mut_spec : {M : Type 1} → statement M
part_mut_spec 𝓤 𝓛 𝓜 𝓡 wired =
    let H = 𝓛.H in
    let c = f.clauses 𝓛 𝓜.mem 𝓡.returns in
    let fn : Fn = code.function in
    let C = (tables 𝓤 H 𝓜 𝓡 𝓡.env).C in
    let Λ = (tables 𝓤 H 𝓜 𝓡 𝓡.env).Λ in
    proved_at 𝓛 f.ended stays c 𝓜 𝓡 (
      Goes-spent_ref 𝓛 1 (0 ∷ []) tt (plain (λ _. Cr)),
      (
        Goes-dropped 𝓛 1 (slot_at 1 f.ended.signature.params) f.ended.kept.1.0 (λ κs x w. refl),
        (Goes-dropped 𝓛 1 (slot_at 2 f.ended.signature.params) f.ended.kept.1.1.0 (λ κs x w. refl), (Goes-dropped 𝓛 1 (slot_at 3 f.ended.signature.params) f.ended.kept.1.1.1.0 (λ κs x w. refl), tt)),
      ),
    )
    f.Key.name fn (code.unfolded 𝓤 H 𝓜 𝓡 wired) (λ z are.
    let Post : Val → SProp 𝓤 = (walk_of 𝓛 f.ended stays c).post z in
    let a = z.0.3 in let vss = z.0.4 in
    let κ : Lft = z.0.0.0 in let q : Share = z.0.1.0 in
    let rb = a.0.ref_ptr.0 in let ro = a.0.ref_ptr.1 in let γ : GName = a.0.ghost_name in let d : Cr.Denot = a.0.now in
    let base = a.1.0 in let from = a.1.1.0 in let len = a.1.1.1.0 in
    let told : vss.1.0 ≡ start_val base.ptr ∷ [] = start_told base.ptr vss.1.0 are.1.0 in
    let Asked : Type 0 = (base.ptr ≡ d.at) × IsFilled d.raw_cells from len in
    qed 𝓛 (((‵ (flft κ q) ⊛ ‵ ftrue) ⊛ ‵ (owns (types_at f.ended.signature.params z.0.0) a vss)) ∷ raw (fact 𝓤 Asked) ∷ []) ∵
    move ! (1 ∷ []) $ heard ! Asked (λ asked. split ! $ split ! $ move ! (2 ∷ []) $ fsplit ! $ move ! (1 ∷ []) $ drop ! $ fsplit3 ! $ drop ! $
    -- [what is observed; the borrow; the token; nothing]
    let filled = asked.1 in let le = filled.within in
    let xs = take len (drop_l from (bytes_of d.raw_cells)) in
    let long : length xs ≡ len = omega (arith, le, length-take len (drop_l from (bytes_of d.raw_cells)), length-drop from (bytes_of d.raw_cells), length-map d.raw_cells byte_of) in
    let seen = Cr.coded.code d in
    regoal ! (λ (us : List Val). prop (WpFn 𝓤 H C Λ fn us Post)) (λ i. are.0.0 i ++ (told i ++ (are.1.1.0.0 i ++ (are.1.1.1.0.0 i ++ [])))) refl $
    enter ! C Λ fn (vptr rb ro ∷ start_val base.ptr ∷ vint w64 from ∷ vint w64 len ∷ []) Post $
    alloc_all ! (λ l. pass_all ! refl ((tt, tt), (start_typed base.ptr, ((tt, record { fits = are.1.1.0.1 }), ((tt, record { fits = are.1.1.1.0.1 }), tt)))) $
    let En : Env 𝓤 H = env fn.locals l in
    opens ! tt Cr {h = d} rb ro (λ vs. move ! (1 ∷ []) $ fsplit ! $ move ! (1 ∷ []) $
    in_a_block ! d.at (λ p. contents_own p d.raw_cells) (id⊢ 𝓤 (never 𝓤)) (λ b o e. fsplit ! $ flt_l ! (λ small.
    -- [the raw_cells; the fields; their cell; the open borrow; ..]
    take_at ! 2 $ rewrite ! 0 (λ (p : Ptr). ‵ (fat full_share (layout start.the_row) (l 2) 0 (start_val p))) (asked.0 ∙ e) refl $ give_at ! 2 $ first ! $ blocks ! $
    sets ! (bin ! (get_in ! (fld ! refl (stop !)) (sub ! 0 refl (whole !))) (get ! refl) tt) refl (tt, tt) $
    let at = from + o in let way = back 𝓛 rb ro d from len vs b o filled e small in
    let more = over d from len in
    let left : SProp 𝓤 = sem 𝓛 (Rest 𝓛 rb ro d from len vs b o filled) in
    let roomy : length xs < 2 ^ 64 = omega (arith, long, small, le) in let fitting : length xs * 1 < 2 ^ 63 = omega (arith, long, small, le) in
    use1 𝓛 (‵ (row_own b at (take len (drop_l from d.raw_cells))) ⊛ ‵ (Around 𝓛 b o d.raw_cells from len le)) (part_out 𝓛 b o d.raw_cells from len le) $ split ! $
    rewrite ! 0 (λ (l : List (Option ℕ)). ‵ (row_own b at l)) filled.all refl $
    use1 𝓛 (‵ (cells (mem u8) xs b at)) (as_cells 𝓛 xs b at) $
    sets_last ! (agg ! (and_then ! (get ! refl) (and_then ! (get ! refl) (no_more !)))) refl (tt, (tt, (record { fits = are.1.1.1.0.1 }, tt))) $
    exec ! C Λ En (after 1 fn.body) (at_ret En Post) $ sets ! (of_opd ! (get ! refl)) refl (tt, (tt, (record { fits = are.1.1.1.0.1 }, tt))) $
    -- [the part; the raw_cells around it; the fields; the cell; the open borrow; ..]
    move ! (2 ∷ 3 ∷ []) $ fjoin ! $ move ! (2 ∷ 0 ∷ []) $ fjoin ! $
    move ! (2 ∷ 3 ∷ 4 ∷ 1 ∷ 0 ∷ []) $ group ! 5 $
    use1 𝓛 (later (some (λ (δ : GName). raw (Elements 𝓛 Cr u8 more (named 0) κ q rb ro b at γ xs (roomy, fitting) left way δ))))
    (lends_Elements 𝓛 Cr u8 more (named 0) κ q rb ro b at γ xs (roomy, fitting) left way seen seen) $ await ! tt $ pick ! (λ δ.
    let r : MutBor (List ℕ) = record { ref_ptr = (b, at); ghost_name = δ; now = xs } in
    returns ! (look_at ! 0 refl) $ free_all ! refl $ keep ! (0 ∷ []) $
    use1 𝓛 (‵ ((MutSlice (named 0) κ u8).own_val r (slice_val (b, at) (length xs) ∷ [])) ⊛ (‵ (flft κ q) ⊛ ‵ (follows Cr (Array u8 0) γ δ more))) (id⊢ 𝓤 _) $ split ! $ move ! (1 ∷ []) $ split ! $
    -- [the token; what follows; the slice]
    rewrite ! 2 (λ (k : ℕ). ‵ ((MutSlice (named 0) κ u8).own_val r (slice_val (b, at) k ∷ []))) long refl $
    suffices ! _ (ends_at 𝓛 f.ended stays c z (slice_val (b, at) len) r (tt, (tt, (tt, (tt, tt)))) (tt, (tt, (tt, (tt, tt))))) $
    nothing ! $ nothing ! $ fjoin ! $ nothing ! $ fjoin ! $ nothing ! $ fjoin ! $ nothing ! $ fjoin ! $
    -- [what is left of the parameters; the token; what follows; the slice]
    move ! (0 ∷ 3 ∷ []) $ join ! $ nothing ! $ move ! (2 ∷ 0 ∷ []) $ join ! $ join ! $ frame ! $ says ! refl $ done !)))))))
