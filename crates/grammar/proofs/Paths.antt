-- Laws of paths: they join and split where their strings do, and grow with the transitions. Assumes nothing.
use Rattle.grammar.proofs.Basics.{List, ◌∷◌, [], ◌++◌, ℕ, ◌<◌}
use Rattle.grammar.specs.Automaton.{Transitions, Path, here, along, StatesBelow}

module _ {D : Transitions} where
  pub path_append : {q m r : ℕ} {α β : List ℕ} → Path D q α m → Path D m β r → Path D q (α ++ β) r
  path_append here q = q
  path_append (along d p) q = along d (path_append p q)

  pub path_split : (α : List ℕ) {β : List ℕ} {q r : ℕ} → Path D q (α ++ β) r → (m : ℕ) × Path D q α m × Path D m β r
  path_split [] {q = q} p = (q, here, p)
  path_split (X ∷ α) (along d p) =
      let s = path_split α p in
      (s.0, along d s.1, s.2)

  pub path_below : {s q r : ℕ} {α : List ℕ} → StatesBelow D s → q < s → Path D q α r → r < s
  path_below below l here = l
  path_below below l (along {q = q} {X = X} {m = m} d p) = path_below below (below q X m d).1 p

pub path_grows :
    {D T : Transitions} {q r : ℕ} {α : List ℕ} → ((q X r : ℕ) → D q X r → T q X r) → Path D q α r → Path T q α r
path_grows grows here = here
path_grows grows (along {q = q} {X = X} {m = m} d p) = along (grows q X m d) (path_grows grows p)
