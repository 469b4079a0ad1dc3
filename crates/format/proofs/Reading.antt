-- For each file there is exactly one answer, and `read` computes it. Assumes nothing.
use mathlib.Core.Path.{◌≡◌, refl, ap, ap₂, sym, subst, ◌∙◌}
use mathlib.Core.Logic.{◌↔◌}
use mathlib.Core.Bool.{Bool, true, false, cond}
use mathlib.Core.List.{List, [], ◌∷◌, ◌++◌, append_assoc, cons≢nil}
use Prim.Native.Nat.{ℕ, zero, suc, ◌+◌, ◌≤◌, ◌<◌}
use native.Mathlib.Nat.{add-zero, add_assoc, le_refl}
use native.Mathlib.Omega.{arith}
use borrow.Author.Tests.{eqb-true, eqb-false, eq-eqb, ne_eqb}
use lib.Dec.{eqb}
use lib.ListN.{length, get_or, take, drop, length-append, length-drop, take-append-drop}
use lib.Seq.{take_at, drop_at, length-take-le}
use Rattle.std.specs.Prelude.{Option, Some, None, option_map}
use Rattle.numbers.specs.Lists.{First}
use Rattle.format.specs.Record.{Kind, code, kind_of, size, Record, kind, body, encode, decode, encodes}
use Rattle.format.specs.Reader.{State, start, step, Good, AllGood, steps, cycles, Answer, stopped, no_task, no_entry, taken, Ends, Means, Answers, Front, stops, passes, front, first_zero, finish, loop, read, Bytes}
use Rattle.numbers.proofs.Lists.{all_take, all_drop}
use Rattle.numbers.proofs.Sums.{cases}
use Rattle.format.proofs.Records.{kind_code, code_kind, kind_decode, encode_decode, body_length, decode_body}
use Rattle.format.proofs.Front.{Says, front_is, is_front, good_front}

-- ---- the first place of a list where there stands 0

abbrev pub ZeroAt : List ℕ → ℕ → Type 0
ZeroAt xs i = get_or xs i 1 ≡ 0

abbrev pub Zeros : List ℕ → Option ℕ → Type 0
Zeros xs None = (i : ℕ) → ¬ ZeroAt xs i
Zeros xs (Some i) = First (ZeroAt xs) i

zeros_none : (x : ℕ) (xs : List ℕ) → Zeros xs None → (i : ℕ) → ¬ ZeroAt (suc x ∷ xs) i
zeros_none x xs f zero h = omega arith
zeros_none x xs f (suc i) h = f i h

zeros_before : (x : ℕ) (xs : List ℕ) (i : ℕ) → ((j : ℕ) → j < i → ¬ ZeroAt xs j) → (j : ℕ) → j < suc i → ¬ ZeroAt (suc x ∷ xs) j
zeros_before x xs i f zero l h = omega arith
zeros_before x xs i f (suc j) l h = f j (omega arith) h

pub first_zero_is : (xs : List ℕ) → Zeros xs (first_zero xs)
unfolding first_zero
first_zero_is [] = λ i h. omega arith
first_zero_is (zero ∷ xs) = (refl, λ j l. absurd (omega arith))
first_zero_is (suc x ∷ xs) = go (first_zero xs) (first_zero_is xs)
  where
    go : (o : Option ℕ) → Zeros xs o → Zeros (suc x ∷ xs) (option_map suc o)
    go None f = zeros_none x xs f
    go (Some i) f = (f.0, zeros_before x xs i f.1)

zeros_same : (xs : List ℕ) (o p : Option ℕ) → Zeros xs o → Zeros xs p → o ≡ p
zeros_same xs None None f h = refl
zeros_same xs None (Some i) f h = absurd (f i h.0)
zeros_same xs (Some i) None f h = absurd (h i f.0)
zeros_same xs (Some i) (Some j) f h =
    cases i j
    (λ l. cases j i (λ m. ap Some (omega arith)) (λ m. absurd (h.1 i m f.0)))
    (λ l. absurd (f.1 j l h.0))

pub is_first_zero : (xs : List ℕ) (o : Option ℕ) → Zeros xs o → first_zero xs ≡ o
is_first_zero xs o h = zeros_same xs (first_zero xs) o (first_zero_is xs) h

-- ---- the whole graph

finish_is : (s : State) (at : ℕ) → Ends s at [] (finish s.graph)
unfolding finish
finish_is s at = go (eqb (length s.graph.tasks) 0) refl (first_zero (cycles s.graph.channels)) (first_zero_is (cycles s.graph.channels))
  where
    go : (b : Bool) → eqb (length s.graph.tasks) 0 ≡ b → (o : Option ℕ) → Zeros (cycles s.graph.channels) o
        → Ends s at [] (cond b no_task (elim o as (λ _. Answer) [ None ↦ taken s.graph | Some i ↦ no_entry i ]))
    go true e o z = (refl, eqb-true (length s.graph.tasks) 0 e)
    go false e None z = (refl, record { some_task = omega (arith, eqb-false (length s.graph.tasks) 0 e); some_entry = z }, refl)
    go false e (Some i) z = (refl, omega (arith, eqb-false (length s.graph.tasks) 0 e), z)

is_finish : (s : State) (at : ℕ) (a : Answer) → Ends s at [] a → finish s.graph ≡ a
unfolding finish
is_finish s at (stopped t place) h = absurd h.0
is_finish s at no_task h = rw (eq-eqb (length s.graph.tasks) 0 h.1)
is_finish s at (no_entry i) h =
    rw (ne_eqb (length s.graph.tasks) 0 (λ e. omega (arith, h.1)), is_first_zero (cycles s.graph.channels) (Some i) h.2)
is_finish s at (taken g) h =
    rw (
      ne_eqb (length s.graph.tasks) 0 (λ e. omega (arith, h.1.some_task)),
      is_first_zero (cycles s.graph.channels) None h.1.some_entry,
    )
    (ap taken h.2)

-- ---- record by record

pub here : (s : State) (at : ℕ) (bs : List ℕ) (a : Answer) → Ends s at bs a → Means s at bs a
unfolding encodes
here s at bs a e =
    record { records = []; rest = bs; run = record { good = tt; parts = refl }; ends = subst (λ n. Ends s n bs a) (sym (add-zero at)) e }

pub prepend :
    (s : State) (at : ℕ) (r : Record) (bs : List ℕ) (a : Answer)
    → Good s r → Means (step s r) (at + length (encode r)) bs a → Means s at (encode r ++ bs) a
unfolding encodes
prepend s at r bs a g m =
    record {
      records = r ∷ m.records;
      rest = m.rest;
      run = record {
        good = (g, m.run.good);
        parts = ap (λ l. encode r ++ l) m.run.parts ∙ sym (append_assoc (encode r) (encodes m.records) m.rest);
      };
      ends =
          subst (λ n. Ends (steps (step s r) m.records) n m.rest a)
          (add_assoc at (length (encode r)) (length (encodes m.records))
          ∙ ap (λ n. at + n) (sym (length-append (encode r) (encodes m.records))))
          m.ends;
    }

-- bytes that pass are those of a good record and more
pub passed : (s : State) (b : ℕ) (bs : List ℕ) (r : Record) → Bytes bs → Says s (kind_of b) bs (passes r)
    → Good s r × (b ∷ bs ≡ encode r ++ drop (size (kind r)) bs)
passed s b bs r h w = go (kind_of b) refl w
  where
    go : (o : Option Kind) → kind_of b ≡ o → Says s o bs (passes r) → Good s r × (b ∷ bs ≡ encode r ++ drop (size (kind r)) bs)
    go None e w = absurd w
    go (Some k) e (is, long, good) = (
      good,
      ap₂ (λ (x : ℕ) (xs : List ℕ). x ∷ xs) (code_kind b k e) (sym (take-append-drop (size k) bs))
          ∙ ap₂ (λ (l : List ℕ) (n : ℕ). l ++ drop n bs)
          (sym (encode_decode k (take (size k) bs) (all_take (λ x. x < 256) (size k) bs h) (length-take-le (size k) bs long)) ∙ ap encode (sym is))
          (ap size (sym (kind_decode k (take (size k) bs)) ∙ ap kind (sym is))),
    )

encode_length : (s : State) (r : Record) → Good s r → length (encode r) ≡ suc (size (kind r))
encode_length s r g = ap suc (body_length s.graph r g.in_range)

pub loop_is : (n : ℕ) (s : State) (at : ℕ) (bs : List ℕ) → Bytes bs → length bs ≤ n → Means s at bs (loop n s at bs)
unfolding loop
loop_is zero s at [] h l = here s at [] _ (finish_is s at)
loop_is zero s at (k ∷ bs) h l = absurd (omega arith)
loop_is (suc n) s at [] h l = here s at [] _ (finish_is s at)
loop_is (suc n) s at (b ∷ bs) h l = go (front s (kind_of b) bs) (front_is s (kind_of b) bs)
    (λ r. loop_is n (step s r) (at + suc (size (kind r))) (drop (size (kind r)) bs) (all_drop (λ x. x < 256) (size (kind r)) bs h.1)
    (omega (arith, length-drop (size (kind r)) bs)))
  where
    next : Record → Answer
    next r = loop n (step s r) (at + suc (size (kind r))) (drop (size (kind r)) bs)

    go : (f : Front) → Says s (kind_of b) bs f
        → ((r : Record) → Means (step s r) (at + suc (size (kind r))) (drop (size (kind r)) bs) (next r))
        → Means s at (b ∷ bs) (elim f as (λ _. Answer) [ stops t ↦ stopped t at | passes r ↦ next r ])
    go (stops t) w rec = here s at (b ∷ bs) (stopped t at) (w, refl)
    go (passes r) w rec =
        let (good, e) = passed s b bs r h.1 w in
        subst (λ l. Means s at l (next r)) (sym e)
        (prepend s at r (drop (size (kind r)) bs) (next r) good
        (subst (λ m. Means (step s r) (at + m) (drop (size (kind r)) bs) (next r)) (sym (encode_length s r good)) (rec r)))

-- and no other answer: record by record it is what the loop comes to
loop_end : (n : ℕ) (s : State) (at : ℕ) (rest : List ℕ) (a : Answer) → length rest ≤ n → Ends s at rest a → loop n s at rest ≡ a
unfolding loop
loop_end zero s at [] a l e = is_finish s at a e
loop_end zero s at (b ∷ bs) a l e = absurd (omega arith)
loop_end (suc n) s at [] a l e = is_finish s at a e
loop_end (suc n) s at (b ∷ bs) (stopped t place) l e =
    ap (λ (x : Front). elim x as (λ _. Answer) [ stops u ↦ stopped u at | passes r ↦ loop n (step s r) (at + suc (size (kind r))) (drop (size (kind r)) bs) ])
    (is_front s (kind_of b) bs t e.0)
    ∙ ap (stopped t) (sym e.1)
loop_end (suc n) s at (b ∷ bs) no_task l e = absurd (cons≢nil e.0)
loop_end (suc n) s at (b ∷ bs) (no_entry i) l e = absurd (cons≢nil e.0)
loop_end (suc n) s at (b ∷ bs) (taken g) l e = absurd (cons≢nil e.0)

-- the loop goes over a good record
loop_good : (n : ℕ) (s : State) (at : ℕ) (r : Record) (bs : List ℕ) → Good s r
    → loop (suc n) s at (encode r ++ bs) ≡ loop n (step s r) (at + length (encode r)) bs
unfolding loop
loop_good n s at r bs g =
    let k : Kind = kind r in
    let len : length (body r) ≡ size k = body_length s.graph r g.in_range in
    let tk : take (size k) (body r ++ bs) ≡ body r = take_at (body r) bs (size k) len in
    let d : decode k (take (size k) (body r ++ bs)) ≡ r = ap (decode k) tk ∙ decode_body s.graph r g.in_range in
    let long : size k ≤ length (body r ++ bs) = omega (arith, length-append (body r) bs) in
    let f : front s (kind_of (code k)) (body r ++ bs) ≡ passes r =
    ap (λ o. front s o (body r ++ bs)) (kind_code k)
    ∙ good_front s k (body r ++ bs) long (subst (Good s) (sym d) g)
    ∙ ap passes d in
    ap (λ (x : Front). elim x as (λ _. Answer) [ stops t ↦ stopped t at | passes q ↦ loop n (step s q) (at + suc (size (kind q))) (drop (size (kind q)) (body r ++ bs)) ]) f
    ∙ ap₂ (λ (m : ℕ) (l : List ℕ). loop n (step s r) (at + suc m) l) (sym len) (drop_at (body r) bs (size k) len)

pub is_loop :
    (rs : List Record) (n : ℕ) (s : State) (at : ℕ) (rest : List ℕ) (a : Answer)
    → AllGood s rs → Ends (steps s rs) (at + length (encodes rs)) rest a → length (encodes rs ++ rest) ≤ n
    → loop n s at (encodes rs ++ rest) ≡ a
unfolding encodes
is_loop [] n s at rest a g e l = loop_end n s at rest a l (subst (λ m. Ends s m rest a) (add-zero at) e)
is_loop (r ∷ rs) zero s at rest a g e l = absurd (omega arith)
is_loop (r ∷ rs) (suc n) s at rest a g e l =
    ap (loop (suc n) s at) (append_assoc (encode r) (encodes rs) rest)
    ∙ loop_good n s at r (encodes rs ++ rest) g.0
    ∙ is_loop rs n (step s r) (at + length (encode r)) rest a g.1
    (subst (λ m. Ends (steps (step s r) rs) m rest a)
    (ap (λ m. at + m) (length-append (encode r) (encodes rs)) ∙ sym (add_assoc at (length (encode r)) (length (encodes rs))))
    e)
    (omega (arith, length-append (body r) (encodes rs ++ rest), ap length (append_assoc (body r) (encodes rs) rest)))

-- ---- the file

pub read_answers : (file : List ℕ) → Bytes file → Answers file (read file)
unfolding read
read_answers file h = loop_is (length file) start 0 file h (le_refl (length file))

pub answers_read : (file : List ℕ) (a : Answer) → Answers file a → read file ≡ a
unfolding read
answers_read file a m =
    subst (λ l. loop (length l) start 0 l ≡ a) (sym m.run.parts)
    (is_loop m.records (length (encodes m.records ++ m.rest)) start 0 m.rest a m.run.good m.ends (le_refl _))

pub one_answer : (file : List ℕ) (a b : Answer) → Answers file a → Answers file b → a ≡ b
one_answer file a b m n = sym (answers_read file a m) ∙ answers_read file b n

pub answer_iff : (file : List ℕ) → Bytes file → (a : Answer) → Answers file a ↔ (read file ≡ a)
answer_iff file h a = (answers_read file a, λ e. subst (Answers file) e (read_answers file h))
