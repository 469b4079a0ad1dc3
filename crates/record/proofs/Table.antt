-- The table of body lengths, entry by entry. Assumes nothing.
use Rattle.std.proofs.Common.{◌≡◌, refl, Option, Some, None, ℕ, zero, suc, ◌<◌, arith, slice_index}
use Rattle.format.specs.Record.{Kind, kind_of, size}
use Rattle.record.specs.declared.TheConstants.{BODY}

-- the length of the body behind a kind byte, 0 behind one that is no kind
abbrev pub body_of : Option Kind → ℕ
body_of None = 0
body_of (Some k) = size k

-- the table as it stands (cited by docs/MAP)
pub table : (k : ℕ) → k < 5 → slice_index BODY k ≡ body_of (kind_of k)
unfolding kind_of
table zero h = refl
table (suc zero) h = refl
table (suc (suc zero)) h = refl
table (suc (suc (suc zero))) h = refl
table (suc (suc (suc (suc zero)))) h = refl
table (suc (suc (suc (suc (suc k))))) h = absurd (omega arith)
