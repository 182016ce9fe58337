-- A sound session with the coarsest table keeps the promise of its book.
use Rattle.std.proofs.Common.{◌≡◌, ◌∙◌, sym, ap}
use Rattle.measure.specs.Measures.{Operations, Laws}
use Rattle.session.specs.States.{State, IsSound}
use Rattle.session.proofs.Asked.{look_answers, ask_answers}
use Rattle.driving.specs.Book.{Book, book_in}
use Rattle.driving.specs.Promise.{Promise}
use Rattle.driving.proofs.Turning.{Best}

pub promised : {V : Type 0} (o : Operations V) (laws : Laws o) (s : State) → IsSound o s → Best o s → (book : Book) → book_in s ≡ book → Promise o book s
promised o laws s sound best book same =
    record {
      ties = ap (λ (b : Book). b.network) same;
      colours = ap (λ (b : Book). b.colours) same;
      coarsest = best;
      answers = λ lines asked looked i j x asks looks l. (ask_answers o s lines asked i laws sound best.regular asks).last x l ∙ sym ((look_answers o s lines looked j looks).last x l);
      looks = λ lines area j passes. look_answers o s lines area j passes;
      asks = λ lines area i passes. ask_answers o s lines area i laws sound best.regular passes;
    }
