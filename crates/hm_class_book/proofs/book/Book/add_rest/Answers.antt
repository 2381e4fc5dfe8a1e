use Rattle.std.proofs.Common.{◌≡◌, ◌++◌, ℕ, List, length, take, sym, ◌∙◌, ap}
use Rattle.hm_outside.specs.Piece.{bytes_in}
use Rattle.hm_class_rules.specs.Bytes.{byte_at, bytes_read}
use Rattle.hm_class_book.specs.Book.{state_in}
use Rattle.hm_class_book.proofs.Rests.{reads_front}
use Rattle.hm_class_book.proofs.book.Book.add_rest.Goals as goal

pub returns-clause-added : goal.returns-clause-added
returns-clause-added c =
    let p = c.args.shape.now in
    let s = state_in c.args.self.now in
    let front = take c.args.most (bytes_in c.rest-rest.result) in
    let read = reads_front (byte_at p s) c.args.addr c.args.most (bytes_in c.rest-rest.result) (λ k lt. c.rest-rest.ensures.bytes k lt) in
    c.in_ok-count.ensures.added
    ∙ ap (λ (l : List ℕ). c.args.bytes.now.items ++ l) (sym read)
    ∙ ap (λ (n : ℕ). c.args.bytes.now.items ++ bytes_read p s c.args.addr n) (sym c.in_ok-count.ensures.count)
