-- What the parts of a state are in its numbers, and what replacing some of the numbers makes of the state.
use mathlib.Core.Path.{◌≡◌, refl, sym, ap, ◌∙◌}
use mathlib.Core.List.{List, [], ◌∷◌}
use Prim.Native.Nat.{ℕ, zero, suc, ◌+◌, ◌*◌, ◌<◌, ◌≤◌}
use native.Mathlib.Omega.{arith}
use native.Mathlib.Nat.{not-suc-le-zero, le_of_suc-le-suc}
use lib.ListN.{length, get_or, set}
use lib.Seq.{get_or-set_same, set-set, ext_get_or}
use lib.IntN.{ℤ, pos, negsuc}
use Rattle.rules.specs.Constants.{most_threads, most_registers, most_variables, most_locks, numbers_per_state}
use Rattle.interval.specs.declared.Span.{Span}
use Rattle.interval.specs.Shape.{zero_span}
use Rattle.state.specs.declared.Thread.{Thread}
use Rattle.state.specs.declared.State.{State}
use Rattle.state.specs.declared.moves.Move.{Move}
use Rattle.state.specs.Access.{zero_thread, thread_at, var_at, owner_at, reg_at, with_thread, with_var, with_owner}
use Rattle.state.specs.Cells.{byte_of, time_of, cell_at, byte_from, span_from, spans_from, bytes_from, thread_from, decode, Sound}
use Rattle.state.specs.Move.{moved_to}
use Rattle.state.proofs.Timed.{at-four}
use Rattle.state.proofs.Round.{byte-back}

-- ---- a list in which one element was replaced

module _ {A : Type 0} (d x : A) where
  ext-set : (l m : List A) (r : ℕ) → length m ≡ length l → r < length l → get_or m r d ≡ x
      → ((k : ℕ) → k < length l → (k ≡ r → ⊥) → get_or m k d ≡ get_or l k d) → m ≡ set l r x
  ext-set [] m r e h p f = absurd (not-suc-le-zero h)
  ext-set (a ∷ l) [] r e h p f = absurd (omega arith)
  ext-set (a ∷ l) (b ∷ m) zero e h p f = λ i. p i ∷ ext_get_or d m l (omega arith) (λ k q. f (suc k) (omega arith) (λ z. omega arith)) i
  ext-set (a ∷ l) (b ∷ m) (suc r) e h p f =
      λ i. f 0 (omega arith) (λ z. omega arith) i ∷ ext-set l m r (omega arith) (le_of_suc-le-suc h) p (λ k q n. f (suc k) (omega arith) (λ z. n (omega arith))) i

-- of two numbers that differ, one is less
apart : {P : Type 0} (k l : ℕ) → (k ≡ l → ⊥) → (k < l → P) → (l < k → P) → P
apart zero zero n f g = absurd (n refl)
apart zero (suc l) n f g = f (omega arith)
apart (suc k) zero n f g = g (omega arith)
apart (suc k) (suc l) n f g = apart k l (λ e. n (ap suc e)) (λ q. f (omega arith)) (λ q. g (omega arith))

-- ---- the parts, by their numbers

pub thread-from : (b : List ℤ) (t : ℕ) → t < most_threads → thread_at (decode b) t ≡ thread_from b (t * 19)
unfolding decode
thread-from b zero h = refl
thread-from b (suc zero) h = refl
thread-from b (suc (suc zero)) h = refl
thread-from b (suc (suc (suc zero))) h = refl
thread-from b (suc (suc (suc (suc t)))) h = absurd (omega arith)

spans-get : (b : List ℤ) (j m : ℕ) → m < most_registers → get_or (spans_from b j) m zero_span ≡ span_from b (j + 2 * m)
spans-get b j zero h = ap (span_from b) (omega arith)
spans-get b j (suc zero) h = refl
spans-get b j (suc (suc zero)) h = refl
spans-get b j (suc (suc (suc zero))) h = refl
spans-get b j (suc (suc (suc (suc zero)))) h = refl
spans-get b j (suc (suc (suc (suc (suc zero))))) h = refl
spans-get b j (suc (suc (suc (suc (suc (suc zero)))))) h = refl
spans-get b j (suc (suc (suc (suc (suc (suc (suc zero))))))) h = refl
spans-get b j (suc (suc (suc (suc (suc (suc (suc (suc m)))))))) h = absurd (omega arith)

-- eight spans, each at its place
pub spans-are : (b : List ℤ) (j : ℕ) (l : List Span) → length l ≡ most_registers → ((m : ℕ) → m < most_registers → get_or l m zero_span ≡ span_from b (j + 2 * m)) → l ≡ spans_from b j
spans-are b j l n at = ext_get_or zero_span l (spans_from b j) n (λ m h. let r : m < most_registers = omega arith in at m r ∙ sym (spans-get b j m r))

bytes-get : (b : List ℤ) (j l : ℕ) → l < most_locks → get_or (bytes_from b j) l 0 ≡ byte_from b (j + l)
bytes-get b j zero h = ap (byte_from b) (omega arith)
bytes-get b j (suc zero) h = refl
bytes-get b j (suc (suc zero)) h = refl
bytes-get b j (suc (suc (suc zero))) h = refl
bytes-get b j (suc (suc (suc (suc zero)))) h = refl
bytes-get b j (suc (suc (suc (suc (suc zero))))) h = refl
bytes-get b j (suc (suc (suc (suc (suc (suc zero)))))) h = refl
bytes-get b j (suc (suc (suc (suc (suc (suc (suc zero))))))) h = refl
bytes-get b j (suc (suc (suc (suc (suc (suc (suc (suc l)))))))) h = absurd (omega arith)

module _ (b : List ℤ) where
  pub at-is : (t : ℕ) → t < most_threads → byte_from b (t * 19) ≡ (thread_at (decode b) t).at
  at-is t h = sym (ap (λ (x : Thread). x.at) (thread-from b t h))

  pub clock_is : (t : ℕ) → t < most_threads → (thread_from b (t * 19)).clock ≡ (thread_at (decode b) t).clock
  clock_is t h = sym (ap (λ (x : Thread). x.clock) (thread-from b t h))

  pub registers-are : (t : ℕ) → t < most_threads → spans_from b (t * 19 + 3) ≡ (thread_at (decode b) t).regs
  registers-are t h = sym (ap (λ (x : Thread). x.regs) (thread-from b t h))

  pub register-is : (t m : ℕ) → t < most_threads → m < most_registers → span_from b (t * 19 + 3 + 2 * m) ≡ reg_at (thread_at (decode b) t) m
  register-is t m h k = sym (spans-get b (t * 19 + 3) m k) ∙ ap (λ (l : List Span). get_or l m zero_span) (registers-are t h)

  pub variable-is : (m : ℕ) → m < most_variables → span_from b (76 + 2 * m) ≡ var_at (decode b) m
  unfolding decode
  variable-is m k = sym (spans-get b 76 m k)

  pub owner-is : (l : ℕ) → l < most_locks → byte_from b (92 + l) ≡ owner_at (decode b) l
  unfolding decode
  owner-is l k = sym (bytes-get b 92 l k)

byte_small : (z : ℤ) → byte_of z ≤ 255
byte_small (pos n) = omega arith
byte_small (negsuc n) = omega arith

-- numbers make a whole state
pub decode-sound : (b : List ℤ) → Sound (decode b)
unfolding decode
decode-sound b = record {
  four = refl;
  regs = at-four (λ _ x. length x.regs ≡ most_registers) (thread_from b 0) (thread_from b 19) (thread_from b 38) (thread_from b 57) refl refl refl refl;
  ats = at-four (λ _ x. x.at ≤ 255) (thread_from b 0) (thread_from b 19) (thread_from b 38) (thread_from b 57)
      (byte_small (cell_at b 0)) (byte_small (cell_at b 19)) (byte_small (cell_at b 38)) (byte_small (cell_at b 57));
  vars = refl;
  owners = refl;
  owned = λ l h. let e = bytes-get b 92 l h in let s = byte_small (cell_at b (92 + l)) in omega arith;
}

-- ---- two rows of numbers that agree from the i-th up to the j-th

abbrev pub Same : List ℤ → List ℤ → ℕ → ℕ → Type 0
Same c b i j = (k : ℕ) → i ≤ k → k < j → cell_at c k ≡ cell_at b k

module _ (c b : List ℤ) where
  span_same : (k : ℕ) → cell_at c k ≡ cell_at b k → cell_at c (k + 1) ≡ cell_at b (k + 1) → span_from c k ≡ span_from b k
  span_same k p q = λ i. record { low = record { 0 = p i }; high = record { 0 = q i } }

  spans-same : (j : ℕ) → Same c b j (j + 16) → spans_from c j ≡ spans_from b j
  spans-same j s =
      let at : (m : ℕ) → m + 2 ≤ 16 → span_from c (j + m) ≡ span_from b (j + m) = (λ m h. span_same (j + m) (s (j + m) (omega arith) (omega arith)) (s (j + m + 1) (omega arith) (omega arith))) in
      let first : span_from c j ≡ span_from b j = span_same j (s j (omega arith) (omega arith)) (s (j + 1) (omega arith) (omega arith)) in
      λ i. first i ∷ at 2 (omega arith) i ∷ at 4 (omega arith) i ∷ at 6 (omega arith) i ∷ at 8 (omega arith) i ∷ at 10 (omega arith) i ∷ at 12 (omega arith) i ∷ at 14 (omega arith) i ∷ []

  bytes_same : (j : ℕ) → Same c b j (j + 8) → bytes_from c j ≡ bytes_from b j
  bytes_same j s =
      let at : (m : ℕ) → m < 8 → byte_from c (j + m) ≡ byte_from b (j + m) = (λ m h. ap byte_of (s (j + m) (omega arith) (omega arith))) in
      let first : byte_from c j ≡ byte_from b j = ap byte_of (s j (omega arith) (omega arith)) in
      λ i. first i ∷ at 1 (omega arith) i ∷ at 2 (omega arith) i ∷ at 3 (omega arith) i ∷ at 4 (omega arith) i ∷ at 5 (omega arith) i ∷ at 6 (omega arith) i ∷ at 7 (omega arith) i ∷ []

  -- where a thread stands and its clock
  stand-same : (j : ℕ) → Same c b j (j + 3) → thread_from c j ≡ record { at = (thread_from b j).at; clock = (thread_from b j).clock; regs = spans_from c (j + 3) }
  stand-same j s = λ i. record {
    at = byte_of (s j (omega arith) (omega arith) i);
    clock = record { low = record { 0 = time_of (s (j + 1) (omega arith) (omega arith) i) }; high = record { 0 = time_of (s (j + 2) (omega arith) (omega arith) i) } };
    regs = spans_from c (j + 3);
  }

  thread-same : (j : ℕ) → Same c b j (j + 19) → thread_from c j ≡ thread_from b j
  thread-same j s =
      let rs = spans-same (j + 3) (λ k p q. s k (omega arith) (omega arith)) in
      stand-same j (λ k p q. s k p (omega arith)) ∙ (λ i. record { at = (thread_from b j).at; clock = (thread_from b j).clock; regs = rs i })

  -- ---- outside one part they agree

  threads-but : (t : ℕ) (x : Thread) → t < most_threads → thread_from c (t * 19) ≡ x
      → ((j : ℕ) → j + 19 ≤ t * 19 → thread_from c j ≡ thread_from b j) → ((j : ℕ) → t * 19 + 19 ≤ j → j + 19 ≤ numbers_per_state → thread_from c j ≡ thread_from b j)
      → (decode c).threads ≡ set (decode b).threads t x
  unfolding decode
  threads-but zero x h e below above = λ i. e i ∷ above 19 (omega arith) (omega arith) i ∷ above 38 (omega arith) (omega arith) i ∷ above 57 (omega arith) (omega arith) i ∷ []
  threads-but (suc zero) x h e below above = λ i. below 0 (omega arith) i ∷ e i ∷ above 38 (omega arith) (omega arith) i ∷ above 57 (omega arith) (omega arith) i ∷ []
  threads-but (suc (suc zero)) x h e below above = λ i. below 0 (omega arith) i ∷ below 19 (omega arith) i ∷ e i ∷ above 57 (omega arith) (omega arith) i ∷ []
  threads-but (suc (suc (suc zero))) x h e below above = λ i. below 0 (omega arith) i ∷ below 19 (omega arith) i ∷ below 38 (omega arith) i ∷ e i ∷ []
  threads-but (suc (suc (suc (suc t)))) x h e below above = absurd (omega arith)

  decode-thread : (t : ℕ) (x : Thread) → t < most_threads → Same c b 0 (t * 19) → Same c b (t * 19 + 19) numbers_per_state → thread_from c (t * 19) ≡ x → decode c ≡ with_thread (decode b) t x
  unfolding decode
  decode-thread t x h lo hi e =
      let vs = spans-same 76 (λ k p q. hi k (omega arith) (omega arith)) in
      let os = bytes_same 92 (λ k p q. hi k (omega arith) (omega arith)) in
      let ts = threads-but t x h e (λ j h. thread-same j (λ k p q. lo k (omega arith) (omega arith))) (λ j h g. thread-same j (λ k p q. hi k (omega arith) (omega arith))) in
      λ i. record { threads = ts i; vars = vs i; owners = os i }

  kept : (j l k : ℕ) → k < 8 → (k ≡ l → ⊥) → Same c b j (j + l) → Same c b (j + l + 1) (j + 8) → cell_at c (j + k) ≡ cell_at b (j + k)
  kept j l k r n lo hi =
      apart k l n (λ q. lo (j + k) (omega arith) (omega arith)) (λ q. hi (j + k) (omega arith) (omega arith))

  span-kept : (j l k : ℕ) → k < 8 → (k ≡ l → ⊥) → Same c b j (j + 2 * l) → Same c b (j + 2 * l + 2) (j + 16) → span_from c (j + 2 * k) ≡ span_from b (j + 2 * k)
  span-kept j l k r n lo hi =
      apart k l n
      (λ q. span_same (j + 2 * k) (lo (j + 2 * k) (omega arith) (omega arith)) (lo (j + 2 * k + 1) (omega arith) (omega arith)))
      (λ q. span_same (j + 2 * k) (hi (j + 2 * k) (omega arith) (omega arith)) (hi (j + 2 * k + 1) (omega arith) (omega arith)))

  -- one span of eight, and one byte of eight
  spans-put : (j m : ℕ) (v : Span) → m < most_registers → Same c b j (j + 2 * m) → Same c b (j + 2 * m + 2) (j + 16)
      → cell_at c (j + 2 * m) ≡ v.low.0 → cell_at c (j + 2 * m + 1) ≡ v.high.0 → spans_from c j ≡ set (spans_from b j) m v
  spans-put j m v h lo hi p q =
      ext-set zero_span v (spans_from b j) (spans_from c j) m refl h
      (spans-get c j m h ∙ (λ i. record { low = record { 0 = p i }; high = record { 0 = q i } }))
      (λ k r n. spans-get c j k r ∙ span-kept j m k r n lo hi ∙ sym (spans-get b j k r))

  bytes_put : (j l o : ℕ) → l < most_locks → Same c b j (j + l) → Same c b (j + l + 1) (j + 8) → byte_from c (j + l) ≡ o → bytes_from c j ≡ set (bytes_from b j) l o
  bytes_put j l o h lo hi p =
      ext-set 0 o (bytes_from b j) (bytes_from c j) l refl h (bytes-get c j l h ∙ p)
      (λ k r n. bytes-get c j k r ∙ ap byte_of (kept j l k r n lo hi) ∙ sym (bytes-get b j k r))

  pub decode-variable : (m : ℕ) (v : Span) → m < most_variables → Same c b 0 (76 + 2 * m) → Same c b (76 + 2 * m + 2) numbers_per_state
      → cell_at c (76 + 2 * m) ≡ v.low.0 → cell_at c (76 + 2 * m + 1) ≡ v.high.0 → decode c ≡ with_var (decode b) m v
  unfolding decode
  decode-variable m v h lo hi p q =
      let th : (j : ℕ) → j + 19 ≤ 76 → thread_from c j ≡ thread_from b j = (λ j h. thread-same j (λ k p q. lo k (omega arith) (omega arith))) in
      let vs = spans-put 76 m v h (λ k p q. lo k (omega arith) q) (λ k p q. hi k p (omega arith)) p q in
      let os = bytes_same 92 (λ k p q. hi k (omega arith) (omega arith)) in
      λ i. record { threads = th 0 (omega arith) i ∷ th 19 (omega arith) i ∷ th 38 (omega arith) i ∷ th 57 (omega arith) i ∷ []; vars = vs i; owners = os i }

  pub decode-owner : (l o : ℕ) → l < most_locks → Same c b 0 (92 + l) → Same c b (92 + l + 1) numbers_per_state → byte_from c (92 + l) ≡ o → decode c ≡ with_owner (decode b) l o
  unfolding decode
  decode-owner l o h lo hi p =
      let th : (j : ℕ) → j + 19 ≤ 76 → thread_from c j ≡ thread_from b j = (λ j h. thread-same j (λ k p q. lo k (omega arith) (omega arith))) in
      let vs = spans-same 76 (λ k p q. lo k (omega arith) (omega arith)) in
      let os = bytes_put 92 l o h (λ k p q. lo k (omega arith) q) (λ k p q. hi k p (omega arith)) p in
      λ i. record { threads = th 0 (omega arith) i ∷ th 19 (omega arith) i ∷ th 38 (omega arith) i ∷ th 57 (omega arith) i ∷ []; vars = vs i; owners = os i }

  -- ---- a thread moved

  pub moved-from : (m : Move) → m.thread < most_threads → m.at < 256 → Same c b 0 (m.thread * 19) → Same c b (m.thread * 19 + 3) numbers_per_state
      → cell_at c (m.thread * 19) ≡ pos m.at → cell_at c (m.thread * 19 + 1) ≡ pos m.clock.low.0 → cell_at c (m.thread * 19 + 2) ≡ pos m.clock.high.0
      → decode c ≡ moved_to (decode b) m (thread_at (decode b) m.thread).regs
  moved-from m h small lo hi at low high =
      let p = m.thread * 19 in
      let byte : byte_from c p ≡ m.at = ap byte_of at ∙ byte-back m.at (omega arith) in
      let rs = spans-same (p + 3) (λ k q r. hi k q (omega arith)) ∙ registers-are b m.thread h in
      decode-thread m.thread _ h lo (λ k q r. hi k (omega arith) r)
      (λ i. record { at = byte i; clock = record { low = record { 0 = time_of (low i) }; high = record { 0 = time_of (high i) } }; regs = rs i })

  -- a thread that has been moved gets other registers
  module _ (s : State) (m : Move) (regs : List Span) (four : length s.threads ≡ most_threads) (h : m.thread < most_threads) (e : decode b ≡ moved_to s m regs) where
    moved-thread : thread_from b (m.thread * 19) ≡ record { at = m.at; clock = m.clock; regs = regs }
    moved-thread = sym (thread-from b m.thread h) ∙ ap (λ (x : State). thread_at x m.thread) e ∙ get_or-set_same s.threads m.thread _ zero_thread (omega arith)

    pub registers-moved : (rs : List Span) → Same c b 0 (m.thread * 19 + 3) → Same c b (m.thread * 19 + 19) numbers_per_state → spans_from c (m.thread * 19 + 3) ≡ rs → decode c ≡ moved_to s m rs
    registers-moved rs lo hi r =
        decode-thread m.thread (record { at = m.at; clock = m.clock; regs = rs }) h (λ k p q. lo k p (omega arith)) hi
        (stand-same (m.thread * 19) (λ k p q. lo k (omega arith) q) ∙ (λ i. record { at = (moved-thread i).at; clock = (moved-thread i).clock; regs = r i }))
        ∙ ap (λ (x : State). with_thread x m.thread (record { at = m.at; clock = m.clock; regs = rs })) e
        ∙ (λ i. record { threads = set-set s.threads m.thread (record { at = m.at; clock = m.clock; regs = regs }) (record { at = m.at; clock = m.clock; regs = rs }) i; vars = s.vars; owners = s.owners })

    pub register-moved : (k : ℕ) (v : Span) → k < most_registers → Same c b 0 (m.thread * 19 + 3 + 2 * k) → Same c b (m.thread * 19 + 3 + 2 * k + 2) numbers_per_state
        → cell_at c (m.thread * 19 + 3 + 2 * k) ≡ v.low.0 → cell_at c (m.thread * 19 + 3 + 2 * k + 1) ≡ v.high.0 → decode c ≡ moved_to s m (set regs k v)
    register-moved k v r lo hi p q =
        registers-moved (set regs k v) (λ n i j. lo n i (omega arith)) (λ n i j. hi n (omega arith) j)
        (spans-put (m.thread * 19 + 3) k v r (λ n i j. lo n (omega arith) j) (λ n i j. hi n i (omega arith)) p q ∙ (λ i. set (moved-thread i).regs k v))
