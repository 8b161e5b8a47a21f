-- The bit table: the two halves, what they say of a place, and how they are written. Assumes nothing.
use Rattle.std.specs.Prelude.{ℕ, ◌+◌, ◌*◌, ◌/◌, ◌%◌, ◌^◌, Bool, cond, ◌&&◌, ◌||◌, List, eqb, leb, get_or, replicate}
use Rattle.grammar.specs.Counting.{one_if_lem, total, count}
use Rattle.machine.specs.Table.{table_size, Status, Statuses, is_pending_at, is_done_at, status_byte, each}

-- the bytes of a bit table: 8,192 for the pending bits, then as many for the done bits
abbrev pub bits_size : ℕ
bits_size = 16384

abbrev pub half_size : ℕ
half_size = 8192

abbrev pub pending_half : ℕ
pending_half = 0

abbrev pub done_half : ℕ
done_half = 1

-- bit j of a number, the lowest first
unfoldable pub bit_of : ℕ → ℕ → Bool
bit_of n j = eqb (n / 2 ^ j % 2) 1

-- The bit table: the bit of a place in a half
unfoldable pub bit_at : List ℕ → ℕ → ℕ → Bool
bit_at bits half p = bit_of (get_or bits (half * half_size + p / 8) 0) (p % 8)

-- The bit table: a done bit says done, whatever the pending bit is; a pending bit alone says pending
abbrev pub bit_status : Bool → Bool → Status
bit_status pending done = cond done Status.done (cond pending Status.pending Status.absent)

-- what a bit table says
unfoldable pub bit_statuses : List ℕ → Statuses
bit_statuses bits p = bit_status (bit_at bits pending_half p) (bit_at bits done_half p)

-- a place has both bits
unfoldable pub has_both : List ℕ → ℕ → Bool
has_both bits p = bit_at bits pending_half p && bit_at bits done_half p

-- the byte whose bits a test says
unfoldable pub byte_of_bits : (ℕ → Bool) → ℕ
byte_of_bits test = total (λ j. one_if_lem (test j) * 2 ^ j) 8

-- a table whose bits a test of half and place says; what is lent past the two halves stays as it is
unfoldable pub write_bits : (ℕ → ℕ → Bool) → List ℕ → List ℕ
write_bits test bits =
    each (λ i old. cond (leb bits_size i) old (byte_of_bits (λ j. test (i / half_size) (i % half_size * 8 + j)))) 0 bits

-- the two bits of each place where a table is to say v; those of some places have the pending bit beside the done bit
abbrev pub saying : (ℕ → Bool) → Statuses → ℕ → ℕ → Bool
saying both v half p = cond (eqb half pending_half) (is_pending_at v p || both p) (is_done_at v p)

-- The bit table: the done count is the number of ones in the second half
unfoldable pub done_bits : List ℕ → ℕ
done_bits bits = count (bit_at bits done_half) table_size

-- the byte table that says what a bit table says
unfoldable pub table_of_bits : List ℕ → List ℕ
table_of_bits bits = each (λ p old. status_byte (bit_statuses bits p)) 0 (replicate table_size 0)
