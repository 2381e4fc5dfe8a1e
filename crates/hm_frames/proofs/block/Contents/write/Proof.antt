-- `write` takes one cell out as room, writes it, and puts it back. Assumes `Logic`.
use Rattle.std.proofs.Common.{◌≡◌, ℕ, ◌+◌, ◌<◌, ◌≤◌, ◌^◌, List, [], ◌∷◌, ◌++◌, length, take, drop as drop_l, Some, refl, sym, ◌∙◌, arith, w8, w64}
use Rattle.std.proofs.lemmas.List.{length-append, length-take, length-drop}
use base.Fraction.{full_share}
use mir.Syntax.{Fn, ty_int}
use mir.Val.{Val, vptr, vint, vunit}
use base.Logic.{SProp, id⊢, never}
use base.Fml.{Lft, Share, ftrue, fat, froom, flft}
use prog.Wp.{Env, WpFn}
use contract.Monad.{fact}
use contract.Running.{tables}
use types.Kit.{‵, raw, ◌⊛◌, prop, at_ret, ◌$◌, ◌∵◌, !, qed, move, keep, drop, use1, use2, split, join, frame, regoal, rewrite, fsplit, fsplit3, fjoin, fjoin3, feq_i, flt_l, flt_i, suffices, done}
use types.Part.{whole, sub}
use types.Run.{stop, fld, bin, unit_lit, of_opd, first, blocks, init, assigns_last, exec, returns, enter}
use types.ByLocal.{alloc_all, pass_all, free_all, look_at, get, get_in, through, sets, take_at, give_at, env}
use denote.RattleType.{RattleType, owns}
use denote.Builtin.{u8}
use denote.Memory.{part_at}
use denote.Param.{layout}
use denote.Plain.{uint_in}
use denote.RawPtr.{Ptr, in_a_block}
use denote.Signature.{plain, types_at}
use denote.Steps.{nothing, heard, opens, closes}
use denote.Triple.Walked.{Stays, says, stay_dropped, stay_ref, walk_of, ends_at, Goes-dropped, Goes-ref}
use Rattle.core.proofs.alloc.Shapes.{after}
use Rattle.core.proofs.cell.Inside.{Good}
use Rattle.std.proofs.raw_atomic.Walks.{proved_at}
use Rattle.hm_frames.specs.Ownership.{bytes_type, row_own, contents_own}
use Rattle.hm_frames.specs.ContentsLends.{with_contents}
use Rattle.hm_frames.specs.contracts.block.Contents as contents
use Rattle.hm_frames.specs.contracts.block.Start as start
use Rattle.hm_frames.specs.contracts.block.Contents.write as f
use Rattle.linked_list_allocator.proofs.Walks.{slot_at}
use Rattle.hm_frames.proofs.Memory.{start_val, start_told, start_typed, Around, part_out, part_in, to_room}
use Rattle.hm_frames.proofs.block.Contents.write.Statement.{statement}
use Rattle.hm_frames.proofs.block.Contents.write.Code as code

abbrev Cr : RattleType
Cr = contents.the_row

abbrev stays : Stays f.ended.signature.params f.ended.kept
stays = (stay_ref (0 ∷ []) tt (plain (λ _. Cr)), (stay_dropped (slot_at 1 f.ended.signature.params) f.ended.kept.1.0, (stay_dropped (slot_at 2 f.ended.signature.params) f.ended.kept.1.1.0, (stay_dropped (slot_at 3 f.ended.signature.params) f.ended.kept.1.1.1.0, tt))))

pub write_spec : {M : Type 1} → statement M
write_spec 𝓤 𝓛 𝓜 𝓡 wired =
    let H = 𝓛.H in
    let c = f.clauses 𝓛 𝓜.mem 𝓡.returns in
    let fn : Fn = code.function in
    let C = (tables 𝓤 H 𝓜 𝓡 𝓡.env).C in
    let Λ = (tables 𝓤 H 𝓜 𝓡 𝓡.env).Λ in
    proved_at 𝓛 f.ended stays c 𝓜 𝓡 (
      Goes-ref 𝓛 1 0 tt (plain (λ _. Cr)),
      (
        Goes-dropped 𝓛 1 (slot_at 1 f.ended.signature.params) f.ended.kept.1.0 (λ κs x w. refl),
        (Goes-dropped 𝓛 1 (slot_at 2 f.ended.signature.params) f.ended.kept.1.1.0 (λ κs x w. refl), (Goes-dropped 𝓛 1 (slot_at 3 f.ended.signature.params) f.ended.kept.1.1.1.0 (λ κs x w. refl), tt)),
      ),
    )
    f.Key.name fn (code.unfolded 𝓤 H 𝓜 𝓡 wired) (λ z are.
    let Post : Val → SProp 𝓤 = (walk_of 𝓛 f.ended stays c).post z in
    let a = z.0.3 in let vss = z.0.4 in
    let κ : Lft = z.0.0.0 in let q : Share = z.0.1.0 in
    let rb = a.0.ref_ptr.0 in let ro = a.0.ref_ptr.1 in let d = a.0.now in
    let base = a.1.0 in let index = a.1.1.0 in let byte = a.1.1.1.0 in
    let told : vss.1.0 ≡ start_val base.ptr ∷ [] = start_told base.ptr vss.1.0 are.1.0 in
    let Asked : Type 0 = (base.ptr ≡ d.at) × (index < length d.raw_cells) in
    qed 𝓛 (((‵ (flft κ q) ⊛ ‵ ftrue) ⊛ ‵ (owns (types_at f.ended.signature.params z.0.0) a vss)) ∷ raw (fact 𝓤 Asked) ∷ []) ∵
    move ! (1 ∷ []) $ heard ! Asked (λ asked. split ! $ split ! $ move ! (2 ∷ []) $ fsplit ! $ move ! (1 ∷ []) $ drop ! $ fsplit3 ! $ drop ! $
    -- [what is observed; the borrow; the token; nothing]
    let le : index + 1 ≤ length d.raw_cells = omega (arith, asked.1) in
    let old = take 1 (drop_l index d.raw_cells) in
    let one : length old ≡ 1 = omega (arith, le, length-take 1 (drop_l index d.raw_cells), length-drop index d.raw_cells) in
    let new : Cr.Denot = with_contents d (take index d.raw_cells ++ (Some byte ∷ drop_l (index + 1) d.raw_cells)) in
    let long : length new.raw_cells ≡ length d.raw_cells
    = omega (arith, le, length-append (take index d.raw_cells) (Some byte ∷ drop_l (index + 1) d.raw_cells), length-take index d.raw_cells, length-drop (index + 1) d.raw_cells) in
    let good : Good (ty_int w8) (vint w8 byte) = (tt, record { fits = are.1.1.1.0.1 }) in
    regoal ! (λ (us : List Val). prop (WpFn 𝓤 H C Λ fn us Post)) (λ i. are.0.0 i ++ (told i ++ (are.1.1.0.0 i ++ (are.1.1.1.0.0 i ++ [])))) refl $
    enter ! C Λ fn (vptr rb ro ∷ start_val base.ptr ∷ vint w64 index ∷ vint w8 byte ∷ []) Post $
    alloc_all ! (λ l. pass_all ! refl ((tt, tt), (start_typed base.ptr, ((tt, record { fits = are.1.1.0.1 }), (good, tt)))) $
    let En : Env 𝓤 H = env fn.locals l in
    opens ! tt Cr {h = d} rb ro (λ vs. move ! (1 ∷ []) $ fsplit ! $ move ! (1 ∷ []) $
    in_a_block ! d.at (λ p. contents_own p d.raw_cells) (id⊢ 𝓤 (never 𝓤)) (λ b o e. fsplit ! $ flt_l ! (λ small.
    let at = index + o in
    use1 𝓛 (‵ (row_own b at old) ⊛ ‵ (Around 𝓛 b o d.raw_cells index 1 le)) (part_out 𝓛 b o d.raw_cells index 1 le) $ split ! $
    use1 𝓛 (‵ (froom (bytes_type (length old)) b at)) (to_room 𝓛 old b at) $ rewrite ! 0 (λ (k : ℕ). ‵ (froom (bytes_type k) b at)) one refl $
    use1 𝓛 (‵ (froom (ty_int w8) b at) ⊛ ‵ (froom (bytes_type 0) b (at + 1))) (𝓛.laws.room_uncons (ty_int w8) 0 b at) $ split ! $ move ! (1 ∷ []) $ drop ! $
    -- [the byte's room; the raw_cells around it; the fields; their cell; the open borrow; ..]
    take_at ! 2 $ rewrite ! 0 (λ (p : Ptr). ‵ (fat full_share (layout start.the_row) (l 2) 0 (start_val p))) (asked.0 ∙ e) refl $ give_at ! 2 $ first ! $ blocks ! $
    sets ! (bin ! (get_in ! (fld ! refl (stop !)) (sub ! 0 refl (whole !))) (get ! refl) tt) refl (tt, tt) $
    assigns_last ! (of_opd ! (get ! refl)) (through ! refl (stop !)) (init ! 0 refl good) $
    exec ! C Λ En (after 1 fn.body) (at_ret En Post) $ sets ! (of_opd ! (unit_lit !)) refl (tt, tt) $
    use1 𝓛 (‵ (part_at u8 full_share byte b at)) (uint_in 𝓛 full_share w8 byte b at) $ nothing ! $ move ! (1 ∷ 0 ∷ []) $ fjoin ! $
    use1 𝓛 (‵ (row_own b at (Some byte ∷ []))) (id⊢ 𝓤 _) $
    use2 𝓛 (‵ (row_own b o new.raw_cells)) (part_in 𝓛 b o d.raw_cells index 1 le (Some byte ∷ []) refl) $
    flt_i ! (length new.raw_cells) (2 ^ 63) (omega (arith, small, long)) $ fjoin ! $
    rewrite ! 0 (λ (p : Ptr). ‵ (contents_own p new.raw_cells)) (sym e) refl $ move ! (1 ∷ 0 ∷ []) $ fjoin ! $ move ! (1 ∷ 0 ∷ []) $ closes ! tt Cr new vs rb ro $
    returns ! (look_at ! 0 refl) $ free_all ! refl $ keep ! (0 ∷ 1 ∷ 2 ∷ []) $ feq_i ! (List Val) (vunit ∷ []) (vunit ∷ []) refl $ move ! (1 ∷ 2 ∷ 3 ∷ 0 ∷ []) $
    -- [what is observed; the borrow; the token; the result]
    suffices ! _ (ends_at 𝓛 f.ended stays c z vunit tt (new, (tt, (tt, (tt, tt)))) (tt, (tt, (tt, (tt, tt))))) $ says ! (refl, refl) $
    nothing ! $ move ! (3 ∷ 0 ∷ []) $ join ! $ frame ! $ feq_i ! (List Val) vss.0 (vptr rb ro ∷ []) are.0.0 $ fjoin3 ! $
    nothing ! $ nothing ! $ fjoin ! $ nothing ! $ fjoin ! $ nothing ! $ fjoin ! $ move ! (1 ∷ 0 ∷ []) $ fjoin ! $ done !))))))
