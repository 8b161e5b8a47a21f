-- `operation::rules_check`: where the rules are kept, 7 passes, and 13 goes by their number. Assumes nothing.
use Rattle.grammar.proofs.Basics.{◌≡◌, ◌∙◌, sym, List, ℕ, ◌≤◌, ◌+◌, length, le-ltb}
use Rattle.std.specs.Prelude.{Option, Some, IfSome}
use Rattle.std.proofs.lemmas.Result.{err_from_is_err_and}
use Rattle.job.specs.Records.{or_else}
use Rattle.job.specs.Check.{room_check}
use Rattle.abnf_jobs.specs.Operation.{rules_check_lem}
use Rattle.reader.specs.Walk.{kept_count}
use Rattle.reader.proofs.operation.rules_check.Goals as goal

by_room : {kept : Option (List ℕ)} {keys : List ℕ} (room : ℕ) → kept ≡ Some keys →
    IfSome kept (λ ks. length ks ≤ 256) →
    or_else (rules_check_lem (kept_count kept)) (room_check (kept_count kept + 1) room) ≡ room_check (length keys + 1) room
by_room {kept} {keys} room found few = rw (found, le-ltb 256 (length keys) (rw found at few))

pub returns-in_err-room_check-clause-checked : goal.returns-in_err-room_check-clause-checked
returns-in_err-room_check-clause-checked c =
    let p = err_from_is_err_and c.from_residual-in_err-room_check.result c.from_residual-in_err-room_check.ensures.1 in
    let found = rw c.in_ok-keys.ensures.ok_part at c.keys.ensures.keys in
    rw (p.1, p.2) (c.in_err-room_check.ensures.checked ∙ sym (by_room c.args.room found c.requires.few))

pub returns-clause-checked : goal.returns-clause-checked
returns-clause-checked c =
    let found = rw c.in_ok-keys.ensures.ok_part at c.keys.ensures.keys in
    c.in_ok-room_check.ensures.checked ∙ sym (by_room c.args.room found c.requires.few)
