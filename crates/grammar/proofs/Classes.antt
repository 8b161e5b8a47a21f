-- What the class of a byte says of its tests. Assumes nothing.
use Rattle.grammar.proofs.Basics.{◌≡◌, ◌∙◌, sym, ap, true, false, Bool, ◌&&◌, ℕ, arith, ltb, leb, ltb-false}
use Rattle.grammar.proofs.Basics.{ltb-true, le-leb, lt-ltb, lt-leb, cases}
use Rattle.grammar.specs.declared.SymbolClass.{SymbolClass}
use Rattle.grammar.specs.declared.SymbolClass.TheVariants.{Variable, Terminal, Neither}
use Rattle.grammar.specs.Symbol.{class_of}

-- whether a class is that of the variables, that of the terminals, either
unfoldable pub tests_of : SymbolClass → Bool × Bool × Bool
tests_of Variable = (true, false, true)
tests_of Terminal = (false, true, true)
tests_of Neither = (false, false, false)

class_tests : (x : ℕ) → tests_of (class_of x) ≡ (ltb x 32, leb 32 x && ltb x 64, ltb x 64)
unfolding tests_of
class_tests x =
    cases (ltb x 32)
    (λ e. let l = ltb-true x 32 e in rw (e, lt-leb 32 x l, lt-ltb x 64 (omega arith)))
    (λ e. rw (e, le-leb 32 x (ltb-false x 32 e)) (cases (ltb x 64) (λ q. rw q) (λ q. rw q)))

-- the class l that a byte's class k is told to be
pub class_told : (x : ℕ) {k l : SymbolClass} → k ≡ class_of x → k ≡ l →
    ((tests_of l).0 ≡ ltb x 32) × ((tests_of l).1 ≡ (leb 32 x && ltb x 64)) × ((tests_of l).2 ≡ ltb x 64)
class_told x is told =
    let e = ap tests_of (sym told ∙ is) ∙ class_tests x in
    (ap (λ t. t.0) e, ap (λ t. t.1) e, ap (λ t. t.2) e)
