-- The given transitions of a job as a list: the fields of its T records, one after the other. A triple stands in the
-- list exactly where the record T with these fields stands among the records. Assumes nothing.
use Rattle.grammar.proofs.Basics.{refl, sym, ⊎_elim, cond, List, ◌∷◌, [], List·Memᴰ, List·Memᴰ·head, List·Memᴰ·tail}
use Rattle.grammar.proofs.Basics.{List·Memᴰ·not-nil, List·Memᴰ·cases-cons, ℕ, eqb, eqb-true, cases}
use Rattle.grammar.specs.Automaton.{Holds}
use Rattle.grammar.proofs.CertificateTests.{Triple}
use Rattle.grammar.proofs.CertificateClosure.{ListedBy}
use Rattle.job.specs.declared.JobRecord.{JobRecord}
use Rattle.job.specs.Format.{records_of, byte_t}
use Rattle.job.specs.Job.{transition_record, job_of_records, job_of}
use Rattle.job.proofs.Members.{record_path, has_member, member_has}

-- q, X and r of each record T q X r
unfoldable pub given_triples : List JobRecord → List Triple
given_triples [] = []
given_triples (x ∷ xs) =
    cond (eqb x.kind byte_t) ((x.first, x.second, x.third) ∷ given_triples xs) (given_triples xs)

record_listed : {q X r : ℕ} {rs : List JobRecord} → List·Memᴰ (transition_record q X r) rs
    → List·Memᴰ {A = Triple} (q, X, r) (given_triples rs)
unfolding given_triples
record_listed (List·Memᴰ·head e) = rw (← e) (List·Memᴰ·head refl)
record_listed (List·Memᴰ·tail {x = x} m) =
    cases (eqb x.kind byte_t) (λ t. rw t (List·Memᴰ·tail (record_listed m))) (λ t. rw t (record_listed m))

listed_record : {q X r : ℕ} (rs : List JobRecord) → List·Memᴰ {A = Triple} (q, X, r) (given_triples rs)
    → List·Memᴰ (transition_record q X r) rs
unfolding given_triples
listed_record [] m = absurd (List·Memᴰ·not-nil m)
listed_record {q} {X} {r} (x ∷ xs) m =
    cases (eqb x.kind byte_t)
    (λ t. ⊎_elim
    (λ e. List·Memᴰ·head (record_path _ x (sym (eqb-true _ _ t)) (λ i. (e i).0) (λ i. (e i).1) (λ i. (e i).2)))
    (λ n. List·Memᴰ·tail (listed_record xs n)) (List·Memᴰ·cases-cons (rw t at m)))
    (λ t. List·Memᴰ·tail (listed_record xs (rw t at m)))

-- the given transitions of a job are those of the list
pub given_listed : (job : List ℕ) → ListedBy (Holds (job_of job).given) (given_triples (records_of job))
unfolding job_of job_of_records
given_listed job =
    record { listed = λ q X r d. record_listed (has_member _ _ d); meant = λ q X r m. member_has (listed_record _ m) }
