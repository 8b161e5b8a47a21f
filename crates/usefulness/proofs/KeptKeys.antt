-- Keys of rules one behind the other, and the rules among them whose symbols are all in a set. Assumes nothing.
use Rattle.grammar.proofs.Basics.{◌≡◌, refl, sym, true, false, Bool, List, ◌∷◌, [], ◌++◌, append-nil, ℕ, ◌<◌, suc}
use Rattle.grammar.proofs.Basics.{List·Memᴰ·head, List·Memᴰ·tail, zero, arith, length, get_or, length-append}
use mathlib.Core.List.{map-append}
use Rattle.grammar.specs.Rule.{Rule}
use Rattle.job.specs.Inside.Keys.{rule_of_key, KeyFits, Keys, rules_of_keys}
use Rattle.usefulness.specs.Sets.{rule_in, within}
use Rattle.usefulness.proofs.Tests.{all_same}
use Rattle.usefulness.proofs.Rounds.{Below}

-- two sets with the same symbols below 64 keep the same rules
pub within_same : (s t : ℕ → Bool) → ((X : ℕ) → X < 64 → s X ≡ t X) → (rules : List Rule) → Below 64 rules →
    within s rules ≡ within t rules
unfolding within
within_same s t same [] below = refl
within_same s t same (ρ ∷ ρs) below =
    rw (all_same same (below ρ (List·Memᴰ·head refl)), within_same s t same ρs (λ σ m. below σ (List·Memᴰ·tail m)))

-- a rule that is left out leaves those before it
pub left_out : (s : ℕ → Bool) (front : List Rule) (ρ : Rule) → rule_in s ρ ≡ false → front ≡ front ++ within s (ρ ∷ [])
unfolding within
left_out s front ρ e = rw e (sym (append-nil front))

-- the key of one that is kept comes behind theirs
pub key_behind : (s : ℕ → Bool) (ks : List ℕ) (key : ℕ) → rule_in s (rule_of_key key) ≡ true →
    rules_of_keys (ks ++ (key ∷ [])) ≡ rules_of_keys ks ++ within s (rule_of_key key ∷ [])
unfolding within
key_behind s ks key e = rw (e, map-append)

-- a key that fits behind others that do
fit_behind : (ks : List ℕ) (key : ℕ) → ((k : ℕ) → k < length ks → KeyFits (get_or ks k 0)) → KeyFits key →
    (k : ℕ) → k < length (ks ++ (key ∷ [])) → KeyFits (get_or (ks ++ (key ∷ [])) k 0)
fit_behind [] key fit fits zero l = fits
fit_behind [] key fit fits (suc k) l = absurd (omega arith)
fit_behind (x ∷ xs) key fit fits zero l = fit 0 (omega arith)
fit_behind (x ∷ xs) key fit fits (suc k) l =
    fit_behind xs key (λ i h. fit (suc i) (omega arith)) fits k (omega arith)

pub keys_more : {ks : List ℕ} {key : ℕ} → Keys ks → KeyFits key → length ks < 256 → Keys (ks ++ (key ∷ []))
keys_more {ks} {key} k fits few =
    record { few = rw length-append (omega arith); fit = fit_behind ks key k.fit fits }
