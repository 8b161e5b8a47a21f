-- Ranks appended to the lists of the symbols: a write past a list, or before it, leaves it alone, since the lists
-- stand 256 apart. Assumes nothing.
use Rattle.grammar.proofs.Basics.{◌≡◌, refl, ◌∙◌, sym, true, false, Bool, cond, ◌||◌, List, ◌∷◌, [], ◌++◌, append-nil}
use Rattle.grammar.proofs.Basics.{ℕ, ◌<◌, ◌≤◌, ◌+◌, ◌-◌, ◌*◌, add-zero, add-one, arith, eqb, ltb, length, get_or, take}
use Rattle.grammar.proofs.Basics.{set, drop, length-drop, get_or-set_other, get_or-set_same, eqb-true, eqb-false}
use Rattle.grammar.proofs.Basics.{ltb-false, ltb-true, cases}
use lib.ListN.{replicate, length-replicate, get_or-replicate}
use lib.Seq.{take-set-le, drop-set-lt, drop-set-add, take-suc-set}
use Rattle.machine.specs.Inside.Users.{UsersRoom, Appended, ranks_of}

-- the n elements from a place on, where one past them is written, and where one is written at their end
module _ (l : List ℕ) (from n v : ℕ) where
  part_before_write : (i : ℕ) → from + n ≤ i → take n (drop from (set l i v)) ≡ take n (drop from l)
  part_before_write i h =
      let same : i ≡ from + (i - from) = omega arith in
      rw (same, drop-set-add from l (i - from) v) (take-set-le n (drop from l) (i - from) v (omega arith))

  part_and_write :
      from + n < length l → take (n + 1) (drop from (set l (from + n) v)) ≡ take n (drop from l) ++ (v ∷ [])
  part_and_write h =
      rw (add-one n, drop-set-add from l n v) (take-suc-set (drop from l) n v (rw (length-drop from l) (omega arith)))

-- the rank written at the end of one list
pub append_one : (rank : ℕ) (users used : List ℕ) (symbol : ℕ) → symbol < 64 → get_or used symbol 0 < 256 →
    UsersRoom 256 users used →
    Appended (eqb symbol) rank users used (set users (symbol * 256 + get_or used symbol 0) rank)
    (set used symbol (get_or used symbol 0 + 1))
append_one rank users used symbol low room rooms =
    let n : ℕ = get_or used symbol 0 in
    let count : get_or (set used symbol (n + 1)) symbol 0 ≡ n + 1 =
    get_or-set_same used symbol (n + 1) 0 (omega (arith, rooms)) in
    record {
      lists = λ X h. cases (eqb symbol X)
          (λ e. rw (e, ← eqb-true symbol X e, count)
          (part_and_write users (symbol * 256) n rank (omega (arith, rooms))))
          (λ e. rw (e, append-nil, get_or-set_other used symbol X (n + 1) 0 (λ q. eqb-false symbol X e (sym q)))
          (cases (ltb symbol X)
          (λ l.
          let below : symbol < X = ltb-true symbol X l in
          rw (drop-set-lt (X * 256) users (symbol * 256 + n) rank (omega arith)))
          (λ l. part_before_write users (X * 256) (get_or used X 0) rank (symbol * 256 + n)
          (omega (arith, ltb-false symbol X l, eqb-false symbol X e, rooms.at_most X h)))));
      counts = λ X h. cases (eqb symbol X)
          (λ e. rw (e, ← eqb-true symbol X e) count)
          (λ e. rw (e, add-zero) (get_or-set_other used symbol X (n + 1) 0 (λ q. eqb-false symbol X e (sym q))));
    }

-- nothing written
pub append_none : {rank : ℕ} {users used : List ℕ} → Appended (λ X. false) rank users used users used
append_none {users = users} {used} =
    record { lists = λ X h. sym (append-nil (ranks_of X users used)); counts = λ X h. sym (add-zero (get_or used X 0)) }

-- what one of two tests adds that do not pick together
added_once : {M : Type 0} (op : M → M → M) (e x u : M) {v w : M} (a b : Bool) → ((y : M) → op y e ≡ y) →
    (a ≡ true → b ≡ false) → v ≡ op u (cond a x e) → w ≡ op v (cond b x e) → w ≡ op u (cond (a || b) x e)
added_once op e x u {v} true b right apart p q = q ∙ rw (apart refl, right v) p
added_once op e x u false b right apart p q = q ∙ rw (p, right u)

module _ {rank : ℕ} {users used users' used' : List ℕ} {f : ℕ → Bool}
    (a : Appended f rank users used users' used') where
  -- two tests that pick nothing together, one after the other
  pub append_both : {users'' used'' : List ℕ} {g : ℕ → Bool} → ((X : ℕ) → f X ≡ true → g X ≡ false) →
      Appended g rank users' used' users'' used'' → Appended (λ X. f X || g X) rank users used users'' used''
  append_both {g = g} apart b =
      record {
        lists = λ X h.
            added_once ◌++◌ [] (rank ∷ []) (ranks_of X users used) (f X) (g X) append-nil (apart X) (a.lists X h)
            (b.lists X h);
        counts = λ X h.
            added_once ◌+◌ 0 1 (get_or used X 0) (f X) (g X) add-zero (apart X) (a.counts X h) (b.counts X h);
      }

  -- the lists have room for one rank more
  pub room_after : {n : ℕ} → length users' ≡ length users → length used' ≡ length used → UsersRoom n users used →
      UsersRoom (n + 1) users' used'
  room_after e e' r =
      record {
        places = omega (arith, r);
        counters = omega (arith, r);
        at_most = λ X h. cases (f X) (λ c. omega (arith, r.at_most X h, rw c at (a.counts X h)))
            (λ c. omega (arith, r.at_most X h, rw c at (a.counts X h)));
      }

pub room_wider : {m n : ℕ} {users used : List ℕ} → m ≤ n → UsersRoom m users used → UsersRoom n users used
room_wider l r = record { places = r.places; counters = r.counters; at_most = λ X h. omega (arith, r.at_most X h) }

-- a new index has no ranks
pub room_empty : (a b : ℕ) → 64 * 256 ≤ a → 64 ≤ b → UsersRoom 0 (replicate a 0) (replicate b 0)
room_empty a b long long' =
    record {
      places = omega (arith, length-replicate {A = ℕ} a 0);
      counters = omega (arith, length-replicate {A = ℕ} b 0);
      at_most = λ X h. omega (arith, get_or-replicate {A = ℕ} b X 0 0 (omega arith));
    }
