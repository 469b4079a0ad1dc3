-- A record in range is what its bytes hold, and bytes are those of the record that they hold. Assumes nothing.
use mathlib.Core.Path.{◌≡◌, refl, ap, ap₂, sym, ◌∙◌}
use mathlib.Core.Bool.{Bool, true, false, cond}
use mathlib.Core.List.{List, [], ◌∷◌, ◌++◌, append_assoc}
use Prim.Native.Nat.{ℕ, ◌-◌, ◌<◌}
use native.Mathlib.Omega.{arith}
use borrow.Author.Tests.{lt-ltb, le-ltb, eqb-true}
use lib.Dec.{ltb, eqb}
use lib.IntN.{ℤ, pos, negsuc}
use lib.ListN.{length}
use Rattle.std.specs.Prelude.{Option, Some, None}
use Rattle.graph.specs.Model.{Graph, million}
use Rattle.format.specs.Record.{wrap, unwrap, split, Kind, a_task, a_channel, a_rate, a_relation, code, kind_of, widths, size, Record, task, channel, rate, relation, kind, values, body, encode, encodes, decode, record_of}
use Rattle.format.specs.Reader.{signed, Holds, ranges, InRange, Bytes}
use Rattle.format.proofs.Numbers.{Fit, join_length, join_bytes, split_join, join_split, split_fit}

-- ---- two's complement

pub wrap_unwrap : (w : ℕ) → w < 4294967296 → wrap (unwrap w) ≡ w
wrap_unwrap w h = go (ltb w 2147483648)
  where
    go : (b : Bool) → wrap (cond b (pos w) (negsuc (4294967295 - w))) ≡ w
    go true = refl
    go false = omega arith

pub unwrap_wrap : (z : ℤ) → Holds (signed z million) → unwrap (wrap z) ≡ z
unwrap_wrap (pos n) h = rw (lt-ltb n 2147483648 (omega arith))
unwrap_wrap (negsuc n) h =
    let e : 4294967295 - (4294967295 - n) ≡ n = omega arith in
    rw (le-ltb (4294967295 - n) 2147483648 (omega arith), e)

wrap_below : (z : ℤ) → Holds (signed z million) → wrap z < 4294967296
wrap_below (pos n) h = omega arith
wrap_below (negsuc n) h = omega arith

-- ---- kinds

pub kind_code : (k : Kind) → kind_of (code k) ≡ Some k
unfolding kind_of
kind_code a_task = refl
kind_code a_channel = refl
kind_code a_rate = refl
kind_code a_relation = refl

pub code_kind : (n : ℕ) (k : Kind) → kind_of n ≡ Some k → n ≡ code k
unfolding kind_of
code_kind n k e =
    go (eqb n 1) (eqb n 2) (eqb n 3) (eqb n 4) (eqb-true n 1) (eqb-true n 2) (eqb-true n 3) (eqb-true n 4) e
  where
    is : (b : Bool) (m : Kind) (o : Option Kind) → (b ≡ true → n ≡ code m) → (o ≡ Some k → n ≡ code k) → cond b (Some m) o ≡ Some k → n ≡ code k
    is true m o p f e = let q : m ≡ k = cc in p refl ∙ ap code q
    is false m o p f e = f e

    go : (a b c d : Bool) → (a ≡ true → n ≡ 1) → (b ≡ true → n ≡ 2) → (c ≡ true → n ≡ 3) → (d ≡ true → n ≡ 4)
        → cond a (Some a_task) (cond b (Some a_channel) (cond c (Some a_rate) (cond d (Some a_relation) None))) ≡ Some k → n ≡ code k
    go a b c d p q r s =
        is a a_task _ p (is b a_channel _ q (is c a_rate _ r (is d a_relation _ s
        (λ e. let f : ◌≡◌ {A = ℕ} 0 1 = cc in absurd (omega arith)))))

pub kind_decode : (k : Kind) (bs : List ℕ) → kind (decode k bs) ≡ k
kind_decode a_task bs = refl
kind_decode a_channel bs = refl
kind_decode a_rate bs = refl
kind_decode a_relation bs = refl

-- ---- from bytes to a record and back

pub body_decode : (k : Kind) (bs : List ℕ) → Bytes bs → length bs ≡ size k → body (decode k bs) ≡ bs
unfolding split
body_decode a_task bs h e = join_split (widths a_task) bs h e
body_decode a_channel bs h e = join_split (widths a_channel) bs h e
body_decode a_rate bs h e = join_split (widths a_rate) bs h e
body_decode a_relation bs h e =
    let f = split_fit (widths a_relation) bs h e in
    rw (wrap_unwrap _ f.1.1.1.0) (join_split (widths a_relation) bs h e)

pub encode_decode : (k : Kind) (bs : List ℕ) → Bytes bs → length bs ≡ size k → encode (decode k bs) ≡ code k ∷ bs
encode_decode k bs h e = ap₂ (λ (x : ℕ) (xs : List ℕ). x ∷ xs) (ap code (kind_decode k bs)) (body_decode k bs h e)

-- ---- from a record to bytes and back

pub fits : (g : Graph) (r : Record) → InRange g r → Fit (widths (kind r)) (values r)
unfolding ranges
fits g (task t) h = omega arith
fits g (channel p c i s) h = omega arith
fits g (rate c s p x) h = omega arith
fits g (relation r) h = let w = wrap_below r.phi h.1.1.1.0 in omega arith

pub body_length : (g : Graph) (r : Record) → InRange g r → length (body r) ≡ size (kind r)
body_length g r h = join_length (widths (kind r)) (values r) (fits g r h)

pub decode_body : (g : Graph) (r : Record) → InRange g r → decode (kind r) (body r) ≡ r
unfolding ranges
decode_body g r h = ap (record_of (kind r)) (split_join (widths (kind r)) (values r) (fits g r h)) ∙ back r h
  where
    back : (r : Record) → InRange g r → record_of (kind r) (values r) ≡ r
    back (task t) h = refl
    back (channel p c i s) h = refl
    back (rate c s p x) h = refl
    back (relation r) h = rw (unwrap_wrap r.phi h.1.1.1.0)

code_byte : (k : Kind) → code k < 256
code_byte a_task = omega arith
code_byte a_channel = omega arith
code_byte a_rate = omega arith
code_byte a_relation = omega arith

pub encode_bytes : (g : Graph) (r : Record) → InRange g r → Bytes (encode r)
encode_bytes g r h = (code_byte (kind r), join_bytes (widths (kind r)) (values r) (fits g r h))

-- ---- records one behind the other

pub encodes_append : (qs rs : List Record) → encodes (qs ++ rs) ≡ encodes qs ++ encodes rs
unfolding encodes
encodes_append [] rs = refl
encodes_append (q ∷ qs) rs = ap (λ l. encode q ++ l) (encodes_append qs rs) ∙ sym (append_assoc (encode q) (encodes qs) (encodes rs))
