-- A form can finish exactly where a path of done transitions leads to a final state: a state that passes at each
-- symbol is a step of the path. Assumes nothing.
use Rattle.grammar.proofs.Basics.{◌≡◌, true, Bool, ◌&&◌, List, ◌∷◌, [], ℕ, ◌<◌, and_split, and_both}
use Rattle.grammar.specs.Automaton.{Path, here, along}
use Rattle.forms.specs.Acceptance.{can_finish}
use Rattle.forms.specs.Theorems.AcceptanceTheorems.{Done}
use Rattle.grammar.proofs.Some.{some_found, some_passes}

module _ (final : ℕ → Bool) (done : ℕ → ℕ → ℕ → Bool) where
  pub finish_path : (w : List ℕ) (q : ℕ) → q < 32 → can_finish final done w q ≡ true → (r : ℕ) × Path (Done done) q w r
      × (final r ≡ true)
  unfolding can_finish
  finish_path [] q l e = (q, here, e)
  finish_path (X ∷ w) q l e =
      let (m, below, both) = some_passes (λ r. done q X r && can_finish final done w r) 32 e in
      let (now, later) = (and_split _ (can_finish final done w m)).0 both in
      let (r, path, ends) = finish_path w m below later in
      (r, along (l, below, now) path, ends)

  -- one step before a form that can finish
  pub finish_before : (X : ℕ) (w : List ℕ) (q r : ℕ) → Done done q X r → can_finish final done w r ≡ true →
      can_finish final done (X ∷ w) q ≡ true
  unfolding can_finish
  finish_before X w q r d e = some_found _ 32 r d.1 (and_both _ _ d.2 e)

  pub path_finish : {q r : ℕ} {w : List ℕ} → Path (Done done) q w r → final r ≡ true → can_finish final done w q ≡ true
  unfolding can_finish
  path_finish here e = e
  path_finish (along {q = q} {X = X} {m = m} {w = w} d p) e = finish_before X w q m d (path_finish p e)
