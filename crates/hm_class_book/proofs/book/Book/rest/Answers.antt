use Rattle.std.proofs.Common.{◌≡◌, ◌+◌, ◌-◌, ◌/◌, ◌%◌, ◌<◌, ℕ, List, [], length, take, drop, subst, arith}
use Rattle.std.specs.Option.{option_map_or}
use Rattle.std.proofs.lemmas.Nat.{div-add-mod', mod_below}
use Rattle.hm_model.specs.Maps.{at}
use Rattle.hm_outside.specs.Piece.{bytes_in}
use Rattle.hm_sizes.specs.Shapes.{slab_at}
use Rattle.hm_class_rules.specs.State.{Slab}
use Rattle.hm_class_book.specs.declared.book.OpenSlab.{OpenSlab}
use Rattle.hm_class_book.specs.Book.{state_in, slabs_in}
use Rattle.hm_class_book.proofs.Addresses.{slab_some}
use Rattle.hm_class_book.proofs.Rests.{piece_byte, piece_none}
use Rattle.hm_class_book.proofs.book.Book.rest.Goals as goal

pub returns-in-Some-clause-bytes : goal.returns-in-Some-clause-bytes
returns-in-Some-clause-bytes c =
    let p = c.args.shape.now in
    let n : ℕ = c.in-Some.offset / p.slab in
    let r : ℕ = c.in-Some.offset % p.slab in
    let is : c.args.addr ≡ slab_at p n + r = omega (arith, c.in-Some.ensures, div-add-mod' c.in-Some.offset p.slab) in
    let value : (bytes_in c.piece_of.result) ≡ take (length (bytes_in c.piece_of.result)) (drop r (option_map_or (λ (b : Slab). b.bytes) (at n (slabs_in c.args.self.now.opens.items)) [])) =
    subst (λ (l : List (ℕ × OpenSlab)). (bytes_in c.piece_of.result) ≡ take (length (bytes_in c.piece_of.result)) (drop r (option_map_or (λ (b : Slab). b.bytes) (at n (slabs_in l)) []))) c.deref.ensures.value c.piece_of.ensures.value in
    λ k lt. piece_byte p (state_in c.args.self.now) n r c.args.addr (bytes_in c.piece_of.result) is k value c.piece_of.ensures.most lt

pub returns-in-Some-clause-none : goal.returns-in-Some-clause-none
returns-in-Some-clause-none c =
    let p = c.args.shape.now in
    let n : ℕ = c.in-Some.offset / p.slab in
    let r : ℕ = c.in-Some.offset % p.slab in
    let is : c.args.addr ≡ slab_at p n + r = omega (arith, c.in-Some.ensures, div-add-mod' c.in-Some.offset p.slab) in
    let some : r < length (option_map_or (λ (b : Slab). b.bytes) (at n (slabs_in c.args.self.now.opens.items)) []) → 0 < length (bytes_in c.piece_of.result) =
    subst (λ (l : List (ℕ × OpenSlab)). r < length (option_map_or (λ (b : Slab). b.bytes) (at n (slabs_in l)) []) → 0 < length (bytes_in c.piece_of.result)) c.deref.ensures.value c.piece_of.ensures.some in
    piece_none p (state_in c.args.self.now) n r c.args.addr (bytes_in c.piece_of.result) is (mod_below c.in-Some.offset p.slab (omega (arith, slab_some p c.requires))) some
