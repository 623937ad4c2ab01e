-- A client that goes well on the tape goes well on the device. Each request is followed through its acts; the tape's laws say what the device holds.
-- Assumes nothing.
use Rattle.std.proofs.Common.{◌≡◌, ℕ, zero, suc, ◌+◌, ◌-◌, ◌*◌, ◌/◌, ◌%◌, ◌^◌, ◌<◌, ◌≤◌, min, Bool, true, false, ◌&&◌, eqb, ltb, leb, ◌⊎◌, List, ◌++◌, length, get_or, take, drop, sym, refl, ap, ◌∙◌, subst, ap₂, subst₂, inl, inr, append_assoc, arith, length-append, length-drop, length-take, take-add}
use Rattle.std.proofs.lemmas.Bool.{ne_eqb, le-ltb, lt-ltb, le-leb, lt-leb, cases_lt, and_from}
use Rattle.std.proofs.lemmas.List.{take_at, drop_at, take-append-le, take-take, drop-drop, drop-take, length-take-le, get_or-take, get_or-drop}
use Rattle.pages.specs.Lists.{or}
use Rattle.pages.specs.Words.{bytes_of, page_words, small, over}
use Rattle.pages.specs.Device.{Device, Page, read_page, all_written, flushed, stopped, a_page}
use Rattle.pages.specs.Run.{Event, said, page, next, read, write, flush, shows, World, in_memory, on_device, queued, writable}
use Rattle.pages.specs.Crash.{Rows, stepped, Goes, reads, writes, flushes, showing, refuses}
use Rattle.pages.specs.Machine.{Asked, served, begun, first_serving, first_act, looked, taken, wanted, go_on, place, head_page, buffer_words}
use Rattle.pages.specs.Engine.{bulk_cells, Housed, image, stored, engine, Small, Lawful}
use Rattle.pages.specs.Tape.{first_page, last_page, page_of, published, Window, Tied, Does, recalls, looks, opens, lays, publishes, rows, finishes, Safe, Held, OnTheDevice}
use Rattle.pages.specs.declared.machine.Request.{Request}
use Rattle.pages.specs.declared.machine.Request.TheVariants.{Recall, Look, Object, Lay, Publish, Show, Done, Refuse}
use Rattle.pages.specs.declared.machine.Serving.{Serving}
use Rattle.pages.specs.declared.machine.Serving.TheVariants.{Idle, Recalling, Looking, Opening, Laying, Flushing, Heading, Settling, Showing}
use Rattle.pages.specs.declared.machine.Machine.{Machine}
use Rattle.pages.proofs.ListLaws.{pick_true, pick_false}
use Rattle.pages.proofs.WordLaws.{small_take, small_drop, small_over, length_over, words_of_page, page_of_words, head_is_page, head_words, head_of_front}
use Rattle.pages.proofs.TapeLaws.{read_elsewhere, place_inside, tied_lay, tied_flush, tied_stopped, tied_head, tied_heading}
use Rattle.pages.proofs.EngineLaws.{step_image}

-- words over words, one part after the other
over_over : (g : ℕ) (xs ys m : List ℕ) → g + length xs ≤ length m → over (g + length xs) ys (over g xs m) ≡ over g (xs ++ ys) m
over_over g xs ys m h =
    ap₂ (λ a b. a ++ (ys ++ b)) front back
    ∙ append_assoc (take g m) xs (ys ++ drop (g + length (xs ++ ys)) m)
    ∙ ap (λ a. take g m ++ a) (sym (append_assoc xs ys (drop (g + length (xs ++ ys)) m)))
  where
    rest : List ℕ
    rest = drop (g + length xs) m

    split : over g xs m ≡ (take g m ++ xs) ++ rest
    split = sym (append_assoc (take g m) xs rest)

    seam : length (take g m ++ xs) ≡ g + length xs
    seam = omega (arith, length-append (take g m) xs, length-take g m)

    front : take (g + length xs) (over g xs m) ≡ take g m ++ xs
    front = ap (take (g + length xs)) split ∙ take_at (take g m ++ xs) rest (g + length xs) seam

    back : drop (g + length xs + length ys) (over g xs m) ≡ drop (g + length (xs ++ ys)) m
    back =
        let e : g + length xs + length ys ≡ g + length (xs ++ ys) = omega (arith, length-append xs ys) in
        sym (drop-drop (length ys) (g + length xs) (over g xs m))
        ∙ ap (drop (length ys)) (ap (drop (g + length xs)) split ∙ drop_at (take g m ++ xs) rest (g + length xs) seam)
        ∙ drop-drop (length ys) (g + length xs) m ∙ ap (λ n. drop n m) e

-- a part of a page is a part of the tape
part_of_page : (t : List ℕ) (at k : ℕ) → k ≤ 64 - at % 64 → take k (drop (at % 64) (page_of t (at / 64))) ≡ take k (drop at t)
part_of_page t at k h =
    let v : ℕ = 64 * (at / 64) in
    let e : v + at % 64 ≡ at = omega arith in
    let b : at % 64 + (64 - at % 64) ≡ 64 = omega arith in
    ap (λ n. take k (drop (at % 64) (take n (drop v t)))) (sym b) ∙ ap (take k) (drop-take (at % 64) (64 - at % 64) (drop v t))
    ∙ take-take k (64 - at % 64) (drop (at % 64) (drop v t)) h ∙ ap (take k) (drop-drop (at % 64) v t ∙ ap (λ n. drop n t) e)

word_of_page : (t : List ℕ) (at : ℕ) → get_or (page_of t (at / 64)) (at % 64) 0 ≡ get_or t at 0
word_of_page t at =
    let v : ℕ = 64 * (at / 64) in
    let e : v + at % 64 ≡ at = omega arith in
    get_or-take 64 (drop v t) (at % 64) 0 (omega arith) ∙ get_or-drop v t (at % 64) 0 ∙ ap (λ n. get_or t n 0) e

module _ {K : Type 0} (f : Housed K) (law : Lawful f) (n : ℕ) (still : Bool) (ls : ℕ) (other : World) (Stop : List ℕ → List ℕ → Rows → Type 0)
    (End : K → List ℕ → List ℕ → List ℕ → ℕ → Rows → ℕ → Type 0) where
  -- a run that goes well from here
  Well : World → Event → Rows → Type 0
  Well w ev ss = Goes (engine f) (Safe n Stop other) (Held f n still End other) ls w other ev ss

  machine : Serving → Machine
  machine s = record { ring = n; serving = s }

  safe : (d : Device) (h t : List ℕ) (laid : ℕ) (ss : Rows) → Tied n still d h t laid → Stop h (published h t) ss → Safe n Stop other d other ss
  unfolding Safe
  safe d h t laid ss td st = (refl, λ cs. (h, published h t, tied_stopped n still d h t laid cs td, st))

  -- the first step for a request
  begins : (a : Asked K) (r : Request) → a.request ≡ r →
      stored f (begun n a) ≡ stepped (image f (machine (first_serving r)) a.state a.memory) (first_act n a.memory r)
  unfolding machine
  begins a r e = ap (λ (x : Request). stepped (image f (record { ring = n; serving = first_serving x }) a.state a.memory) (first_act n a.memory x)) e

  -- and a later one, from what memory then holds
  goes_on : (s : Serving) (k : K) (m : List ℕ) (ev : Event) → length m ≡ bulk_cells →
      (engine f).step (image f (machine s) k m) ev ≡ stored f (served f.program (machine s) k m ev)
  goes_on s k m ev l = step_image f law (machine s) k m ev l

  -- the words of a page of the tape, as they are read
  page_seen : (d : Device) (h t : List ℕ) (laid v : ℕ) → Tied n still d h t laid → first_page h ≤ v → v < laid → page_words (read_page d (place n v)) ≡ page_of t v
  page_seen d h t laid v td lo hi =
      let w : Window n h t laid = td.window in
      ap page_words (td.seen v lo hi)
      ∙ words_of_page (page_of t v) (length-take-le 64 (drop (64 * v) t) (omega (arith, length-drop (64 * v) t, w.tape_length)))
      (small_take 64 (drop (64 * v) t) (small_drop (64 * v) t w.tape_small))

  -- WORDS COME, page by page: a page of the tape is there, and so many words are still wanted; `final` is memory when all have come.
  record Reading (d : Device) (h t : List ℕ) (laid : ℕ) (k : K) (final : List ℕ) (w : World) (ev : Event) (at left got : ℕ) (m : List ℕ) : Type 0 where
    step_is : (engine f).step w.memory ev ≡ stored f (go_on f.program n k (looked at left got (page_of t (at / 64)) m))
    up_is : w.up ≡ true
    device_is : w.device ≡ d
    low : 64 * first_page h ≤ at
    high : at + left ≤ 64 * laid
    room : got + left ≤ buffer_words
    length_is : length m ≡ bulk_cells
    final_is : over got (take left (drop at t)) m ≡ final

  -- what goes on when all is served: the client is asked again
  Then : Device → K → List ℕ → Rows → Type 0
  Then d k m ss =
      (w : World) (ev : Event) → w.up ≡ true → w.device ≡ d → (engine f).step w.memory ev ≡ stored f (begun n (f.program.resumes k m)) → Well w ev ss

  one_page : (d : Device) (h t : List ℕ) (laid : ℕ) (ss : Rows) (k : K) (final : List ℕ) (w : World) (ev : Event) (at left got : ℕ) (m : List ℕ) →
      Reading d h t laid k final w ev at left got m → Tied n still d h t laid → Stop h (published h t) ss → Then d k final ss →
      ((w₁ : World) (ev₁ : Event) (at₁ left₁ got₁ : ℕ) (m₁ : List ℕ) → left₁ < left → Reading d h t laid k final w₁ ev₁ at₁ left₁ got₁ m₁ → Well w₁ ev₁ ss) →
      Well w ev ss
  unfolding Well Then machine
  one_page d h t laid ss k final w ev at left got m rd td st rest more = go (cases_lt (taken at left got) left)
    where
      part : ℕ
      part = taken at left got

      words : List ℕ
      words = take part (drop (at % 64) (page_of t (at / 64)))

      m₁ : List ℕ
      m₁ = over got words m

      words_are : words ≡ take part (drop at t)
      words_are = part_of_page t at part (omega arith)

      go : (taken at left got < left) ⊎ (left ≤ taken at left got) → Well w ev ss
      go (inr b) =
          let e : part ≡ left = omega (arith, rd.room) in
          rest w ev rd.up_is rd.device_is
          (rd.step_is ∙ ap (stored f) (pick_true (leb left part) _ _ (le-leb left part b))
          ∙ ap (λ (x : List ℕ). stored f (begun n (f.program.resumes k x)))
          (ap (λ (x : List ℕ). over got x m) (words_are ∙ ap (λ (j : ℕ). take j (drop at t)) e) ∙ rd.final_is))
      go (inl b) =
          reads ls w other ev ss (image f (machine (Looking at₁ (left - part) (got + part))) k m₁) (place n (at₁ / 64))
          (safe w.device h t laid ss (subst (λ (x : Device). Tied n still x h t laid) (sym rd.device_is) td) st)
          (rd.step_is ∙ ap (stored f) (pick_false (leb left part) _ _ (lt-leb left part b))
          ∙ ap (λ (j : ℕ). stepped (image f (machine (Looking j (left - part) (got + part))) k m₁) (read (place n (j / 64)))) capped_is)
          (more (in_memory w (image f (machine (Looking at₁ (left - part) (got + part))) k m₁)) (page (read_page w.device (place n (at₁ / 64)))) at₁ (left - part)
          (got + part) m₁ smaller
          (record {
            step_is =
                goes_on (Looking at₁ (left - part) (got + part)) k m₁ (page (read_page w.device (place n (at₁ / 64)))) m₁_length
                ∙ ap (λ (x : List ℕ). stored f (go_on f.program n k (looked at₁ (left - part) (got + part) x m₁)))
                (ap (λ (x : Device). page_words (read_page x (place n (at₁ / 64)))) rd.device_is ∙ page_seen d h t laid (at₁ / 64) td lo₁ hi₁);
            up_is = rd.up_is;
            device_is = rd.device_is;
            low = omega (arith, rd.low);
            high = omega (arith, rd.high);
            room = omega (arith, rd.room);
            length_is = m₁_length;
            final_is = final₁;
          }))
        where
          at₁ : ℕ
          at₁ = at + part

          smaller : left - part < left
          smaller = omega (arith, rd.room, b)

          lo₁ : first_page h ≤ at₁ / 64
          lo₁ = omega (arith, rd.low)

          hi₁ : at₁ / 64 < laid
          hi₁ = omega (arith, rd.high, b)

          capped_is : min (at + part) 18446744073709551615 ≡ at₁
          capped_is = omega (arith, rd.high, td.window.bounded, b)

          words_length : length words ≡ part
          words_length =
              ap length words_are ∙ length-take-le part (drop at t) (omega (arith, length-drop at t, td.window.tape_length, rd.high, b))

          m₁_length : length m₁ ≡ bulk_cells
          m₁_length = length_over got words m (omega (arith, words_length, rd.room, rd.length_is, b)) ∙ rd.length_is

          final₁ : over (got + part) (take (left - part) (drop at₁ t)) m₁ ≡ final
          final₁ =
              let e : left ≡ part + (left - part) = omega (arith, b) in
              ap (λ (j : ℕ). over (got + j) (take (left - part) (drop at₁ t)) m₁) (sym words_length)
              ∙ over_over got words (take (left - part) (drop at₁ t)) m (omega (arith, words_length, rd.room, rd.length_is, b))
              ∙ ap (λ (x : List ℕ). over got x m)
              (ap (λ (x : List ℕ). x ++ take (left - part) (drop at₁ t)) words_are
              ∙ ap (λ (x : List ℕ). take part (drop at t) ++ take (left - part) x) (sym (drop-drop part at t)) ∙ sym (take-add part (left - part) (drop at t))
              ∙ ap (λ (j : ℕ). take j (drop at t)) (sym e))
              ∙ rd.final_is

  arriving : (fuel : ℕ) (d : Device) (h t : List ℕ) (laid : ℕ) (ss : Rows) (k : K) (final : List ℕ) (w : World) (ev : Event) (at left got : ℕ) (m : List ℕ) →
      left ≤ fuel → Reading d h t laid k final w ev at left got m → Tied n still d h t laid → Stop h (published h t) ss → Then d k final ss → Well w ev ss
  arriving zero d h t laid ss k final w ev at left got m hf rd td st rest =
      one_page d h t laid ss k final w ev at left got m rd td st rest (λ w₁ ev₁ at₁ left₁ got₁ m₁ lt rd₁. absurd (omega arith))
  arriving (suc fuel) d h t laid ss k final w ev at left got m hf rd td st rest =
      one_page d h t laid ss k final w ev at left got m rd td st rest
      (λ w₁ ev₁ at₁ left₁ got₁ m₁ lt rd₁. arriving fuel d h t laid ss k final w₁ ev₁ at₁ left₁ got₁ m₁ (omega arith) rd₁ td st rest)

  -- PAGES ARE LAID, one after the other: this one is being written, from a word of the buffer on, and so many are left behind it.
  record Writing (h t : List ℕ) (ss : Rows) (k : K) (m : List ℕ) (left : ℕ) (w : World) (ev : Event) (v from : ℕ) : Type 0 where
    step_is :
        (engine f).step w.memory ev ≡ stepped (image f (machine (Laying v left (from + 64))) k m) (write (place n v) (bytes_of (take 64 (drop from m))))
    up_is : w.up ≡ true
    tied : Tied n still w.device h t v
    stop : Stop h (published h t) ss
    room : v + suc left ≤ first_page h + n
    bound : 64 * (v + suc left) < 2 ^ 64
    inside : from + 64 * suc left ≤ buffer_words
    length_is : length m ≡ bulk_cells
    small_is : small m ≡ true

  page_in : (from : ℕ) (m : List ℕ) → from + 64 ≤ buffer_words → length m ≡ bulk_cells → length (take 64 (drop from m)) ≡ 64
  page_in from m b l = length-take-le 64 (drop from m) (omega (arith, length-drop from m))

  -- the world after that write
  after_write : (k : K) (m : List ℕ) (left : ℕ) (w : World) (v from : ℕ) → World
  after_write k m left w v from = on_device w (image f (machine (Laying v left (from + 64))) k m) (queued w.device (place n v) (bytes_of (take 64 (drop from m))))

  tied_then : (h t : List ℕ) (ss : Rows) (k : K) (m : List ℕ) (left : ℕ) (w : World) (ev : Event) (v from : ℕ) → Writing h t ss k m left w ev v from →
      Tied n still (after_write k m left w v from).device h (t ++ take 64 (drop from m)) (suc v)
  unfolding after_write
  tied_then h t ss k m left w ev v from wr =
      tied_lay n still w.device h t v (take 64 (drop from m)) wr.tied (omega (arith, wr.room)) (omega (arith, wr.bound))
      (page_in from m (omega (arith, wr.inside)) wr.length_is) (small_take 64 (drop from m) (small_drop from m wr.small_is))

  one_write : (h t : List ℕ) (ss : Rows) (k : K) (m : List ℕ) (left : ℕ) (w : World) (ev : Event) (v from : ℕ) → Writing h t ss k m left w ev v from →
      Well (after_write k m left w v from) next ss → Well w ev ss
  unfolding Well machine after_write
  one_write h t ss k m left w ev v from wr rest =
      writes ls w other ev ss (image f (machine (Laying v left (from + 64))) k m) (place n v) (bytes_of (take 64 (drop from m)))
      (safe w.device h t v ss wr.tied wr.stop) wr.step_is
      (and_from (ltb (place n v) (length w.device.pages)) (a_page (bytes_of (take 64 (drop from m))))
      (lt-ltb (place n v) (length w.device.pages) (omega (arith, place_inside n v wr.tied.window.ring, wr.tied.pages)))
      (page_of_words (take 64 (drop from m)) (page_in from m (omega (arith, wr.inside)) wr.length_is)))
      rest

  laying : (left : ℕ) (w : World) (ev : Event) (h t : List ℕ) (ss : Rows) (k : K) (m : List ℕ) (v from : ℕ) → Writing h t ss k m left w ev v from →
      ((d : Device) → Tied n still d h (t ++ take (64 * suc left) (drop from m)) (v + suc left) → Then d k m ss) → Well w ev ss
  unfolding Then machine after_write
  laying zero w ev h t ss k m v from wr rest =
      one_write h t ss k m 0 w ev v from wr
      (rest (after_write k m 0 w v from).device
      (let e : suc v ≡ v + 1 = omega arith in
      subst (λ (j : ℕ). Tied n still (after_write k m 0 w v from).device h (t ++ take 64 (drop from m)) j) e (tied_then h t ss k m 0 w ev v from wr))
      (after_write k m 0 w v from) next wr.up_is refl (goes_on (Laying v 0 (from + 64)) k m next wr.length_is))
  laying (suc j) w ev h t ss k m v from wr rest =
      one_write h t ss k m (suc j) w ev v from wr
      (laying j (after_write k m (suc j) w v from) next h (t ++ take 64 (drop from m)) ss k m (suc v) (from + 64)
      (record {
        step_is =
            goes_on (Laying v (suc j) (from + 64)) k m next wr.length_is ∙ ap (stored f) (pick_false (or (eqb (suc j) 0) (ltb 41024 (from + 64))) _ _ not_last)
            ∙ ap₂ (λ (x y : ℕ). stepped (image f (machine (Laying x y (from + 64 + 64))) k m) (write (place n x) (bytes_of (take 64 (drop (from + 64) m))))) next_page one_less;
        up_is = wr.up_is;
        tied = tied_then h t ss k m (suc j) w ev v from wr;
        stop = subst (λ (x : List ℕ). Stop h x ss) (sym known) wr.stop;
        room = omega (arith, wr.room);
        bound = omega (arith, wr.bound);
        inside = omega (arith, wr.inside);
        length_is = wr.length_is;
        small_is = wr.small_is;
      })
      (λ d td. rest d (subst₂ (λ (x : List ℕ) (y : ℕ). Tied n still d h x y) tape_is (let e : suc v + suc j ≡ v + suc (suc j) = omega arith in e) td)))
    where
      next_page : min (v + 1) 18446744073709551615 ≡ suc v
      next_page = omega (arith, wr.bound)

      one_less : suc j - 1 ≡ j
      one_less = omega arith

      not_last : or (eqb (suc j) 0) (ltb 41024 (from + 64)) ≡ false
      not_last = ap₂ or (ne_eqb (suc j) 0 (λ e. omega arith)) (le-ltb 41024 (from + 64) (omega (arith, wr.inside)))

      known : published h (t ++ take 64 (drop from m)) ≡ published h t
      known = take-append-le (64 * last_page h) t (take 64 (drop from m)) (omega (arith, wr.tied.window.tape_length, wr.tied.window.within))

      tape_is : (t ++ take 64 (drop from m)) ++ take (64 * suc j) (drop (from + 64) m) ≡ t ++ take (64 * suc (suc j)) (drop from m)
      tape_is =
          let e : 64 + 64 * suc j ≡ 64 * suc (suc j) = omega arith in
          append_assoc t (take 64 (drop from m)) (take (64 * suc j) (drop (from + 64) m))
          ∙ ap (λ (x : List ℕ). t ++ (take 64 (drop from m) ++ take (64 * suc j) x)) (sym (drop-drop 64 from m))
          ∙ ap (λ (x : List ℕ). t ++ x) (sym (take-add 64 (64 * suc j) (drop from m)) ∙ ap (λ (x : ℕ). take x (drop from m)) e)

  -- THE HEAD IS PUBLISHED: a flush, the head's page, a flush.
  publishing : (w : World) (ev : Event) (h t : List ℕ) (laid : ℕ) (ss : Rows) (k : K) (m : List ℕ) →
      (engine f).step w.memory ev ≡ stepped (image f (machine Flushing) k m) flush → w.up ≡ true → Tied n still w.device h t laid →
      Stop h (published h t) ss → length m ≡ bulk_cells → small m ≡ true → first_page h ≤ first_page (take 32 m) →
      first_page (take 32 m) ≤ last_page (take 32 m) → last_page (take 32 m) ≤ laid → Stop (take 32 m) (published (take 32 m) t) ss →
      ((d : Device) → Tied n still d (take 32 m) t laid → Then d k m ss) → Well w ev ss
  unfolding Well Then machine Safe all_written
  publishing w ev h t laid ss k m eq up td st l s up_first rise inside st₁ rest =
      flushes ls w other ev ss (image f (machine Flushing) k m) (safe w.device h t laid ss td st) eq
      (writes ls w₁ other next ss (image f (machine Heading) k m) 0 (head_page m) (safe w₁.device h t laid ss td₁ st) (goes_on Flushing k m next l) writable₁
      (flushes ls w₂ other next ss (image f (machine Settling) k m) (refl, heading) (goes_on Heading k m next l)
      (rest (flushed w₂.device) td₃ (on_device w₂ (image f (machine Settling) k m) (flushed w₂.device)) next up refl (goes_on Settling k m next l))))
    where
      new : List ℕ
      new = take 32 m

      new_length : length new ≡ 32
      new_length = length-take-le 32 m (omega arith)

      new_small : small new ≡ true
      new_small = small_take 32 m s

      head_is : head_page m ≡ head_page new
      head_is = head_of_front m

      w₁ : World
      w₁ = on_device w (image f (machine Flushing) k m) (flushed w.device)

      td₁ : Tied n still (flushed w.device) h t laid
      td₁ = tied_flush n still w.device h t laid td

      w₂ : World
      w₂ = on_device w₁ (image f (machine Heading) k m) (queued w₁.device 0 (head_page m))

      writable₁ : writable w₁.device 0 (head_page m) ≡ true
      writable₁ =
          and_from (ltb 0 (length w₁.device.pages)) (a_page (head_page m)) (lt-ltb 0 (length w₁.device.pages) (omega (arith, td₁.pages)))
          (ap a_page head_is ∙ head_is_page new new_length)

      heading : (cs : List ℕ) → (h₁ : List ℕ) × (t₁ : List ℕ) × Tied n true (stopped w₂.device cs) h₁ t₁ (last_page h₁) × Stop h₁ t₁ ss
      heading cs =
          go (subst (λ (p : Page). Tied n true (stopped (queued (flushed w.device) 0 p) cs) h (published h t) (last_page h)
          ⊎ Tied n true (stopped (queued (flushed w.device) 0 p) cs) new (published new t) (last_page new)) (sym head_is)
          (tied_heading n still (flushed w.device).pages h t laid new cs td₁ up_first rise inside new_length new_small))
        where
          go : Tied n true (stopped w₂.device cs) h (published h t) (last_page h) ⊎ Tied n true (stopped w₂.device cs) new (published new t) (last_page new) →
              (h₁ : List ℕ) × (t₁ : List ℕ) × Tied n true (stopped w₂.device cs) h₁ t₁ (last_page h₁) × Stop h₁ t₁ ss
          go (inl x) = (h, published h t, x, st)
          go (inr x) = (new, published new t, x, st₁)

      td₃ : Tied n still (flushed w₂.device) new t laid
      td₃ = tied_head n still (flushed w.device).pages h t laid new (head_page m) td₁ up_first rise inside new_length new_small head_is

  -- what the client then has, with words over the buffer
  resumed_length : (a : Asked K) (new : List ℕ) → length new ≤ buffer_words → length a.memory ≡ bulk_cells →
      length (f.program.resumes a.state (over 0 new a.memory)).memory ≡ bulk_cells
  resumed_length a new h l = law.resumes_length a.state (over 0 new a.memory) ∙ length_over 0 new a.memory (omega arith) ∙ l

  resumed_small : (a : Asked K) (new : List ℕ) → small new ≡ true → Small f a → Small f (f.program.resumes a.state (over 0 new a.memory))
  resumed_small a new h s = law.resumes_small a.state (over 0 new a.memory) s.state (small_over 0 new a.memory h s.memory)

  -- the first page of what is looked at: the machine serves `s`, which takes so many words of it
  looking : (w : World) (ev : Event) (h t : List ℕ) (laid : ℕ) (ss : Rows) (at words : ℕ) (a : Asked K) (s : Serving) →
      (engine f).step w.memory ev ≡ stepped (image f (machine s) a.state a.memory) (read (place n (at / 64))) →
      ((p : Page) → page_words p ≡ page_of t (at / 64) →
      served f.program (machine s) a.state a.memory (page p)
      ≡ go_on f.program n a.state (looked at words 0 (page_of t (at / 64)) a.memory)) →
      Tied n still w.device h t laid → Stop h (published h t) ss → 1 ≤ words → words ≤ buffer_words → 64 * first_page h ≤ at → at + words ≤ 64 * laid →
      length a.memory ≡ bulk_cells → w.up ≡ true → Then w.device a.state (over 0 (take words (drop at t)) a.memory) ss → Well w ev ss
  unfolding Well machine
  looking w ev h t laid ss at words a s eq serves td st one most lo hi l up then =
      reads ls w other ev ss M₁ (place n (at / 64)) (safe w.device h t laid ss td st) eq
      (arriving words w.device h t laid ss a.state (over 0 (take words (drop at t)) a.memory) (in_memory w M₁) (page p) at words 0 a.memory (omega arith)
      (record {
        step_is =
            goes_on s a.state a.memory (page p) l ∙ ap (stored f) (serves p (page_seen w.device h t laid (at / 64) td (omega arith) (omega arith)));
        up_is = up;
        device_is = refl;
        low = lo;
        high = hi;
        room = omega arith;
        length_is = l;
        final_is = refl;
      })
      td st then)
    where
      M₁ : List ℕ
      M₁ = image f (machine s) a.state a.memory

      p : Page
      p = read_page w.device (place n (at / 64))

  -- ALL REQUESTS
  sound : {a : Asked K} {h t : List ℕ} {laid : ℕ} {ss : Rows} → Does f.program n Stop End a h t laid ss → (w : World) (ev : Event) →
      (engine f).step w.memory ev ≡ stored f (begun n a) → w.up ≡ true → Tied n still w.device h t laid → Stop h (published h t) ss →
      length a.memory ≡ bulk_cells → Small f a → Well w ev ss
  unfolding Well Then machine Held
  sound (recalls a h t laid ss rq then) w ev eq up td st l s =
      let win : Window n h t laid = td.window in
      reads ls w other ev ss (image f (machine Recalling) a.state a.memory) 0 (safe w.device h t laid ss td st) (eq ∙ begins a Recall rq)
      (sound (then win.head_length win.head_small) (in_memory w (image f (machine Recalling) a.state a.memory)) (page (read_page w.device 0))
      (goes_on Recalling a.state a.memory (page (read_page w.device 0)) l
      ∙ ap (λ (x : List ℕ). stored f (begun n (f.program.resumes a.state (over 0 x a.memory))))
      (ap (λ (p : Page). take 32 (page_words p)) (read_elsewhere w.device.queue w.device.pages 0 td.head_waits ∙ td.head)
      ∙ head_words h win.head_length win.head_small))
      up td st (resumed_length a h (omega (arith, win.head_length)) l) (resumed_small a h win.head_small s))
  sound (looks a h t laid ss at words rq one most lo hi then) w ev eq up td st l s =
      let e : min words buffer_words ≡ words = omega arith in
      let sw : small (take words (drop at t)) ≡ true = small_take words (drop at t) (small_drop at t td.window.tape_small) in
      looking w ev h t laid ss at words a (Looking at words 0)
      (eq ∙ begins a (Look at words) rq
      ∙ ap (λ (x : ℕ). stepped (image f (machine (Looking at x 0)) a.state a.memory) (read (place n (at / 64)))) e)
      (λ p q. ap (λ (x : List ℕ). go_on f.program n a.state (looked at words 0 x a.memory)) q) td st one most lo hi l up
      (λ w₁ ev₁ up₁ same eq₁.
      sound (then sw) w₁ ev₁ eq₁ up₁ (subst (λ (x : Device). Tied n still x h t laid) (sym same) td) st
      (resumed_length a (take words (drop at t)) (omega (arith, length-take words (drop at t))) l) (resumed_small a (take words (drop at t)) sw s))
  sound (opens a h t laid ss at limit rq lo hi then) w ev eq up td st l s =
      let words : ℕ = wanted limit (get_or t at 0) in
      let sw : small (take words (drop at t)) ≡ true = small_take words (drop at t) (small_drop at t td.window.tape_small) in
      looking w ev h t laid ss at words a (Opening at limit) (eq ∙ begins a (Object at limit) rq)
      (λ p q. ap (λ (x : List ℕ). go_on f.program n a.state (looked at (wanted limit (get_or x (at % 64) 0)) 0 x a.memory)) q
      ∙ ap (λ (x : ℕ). go_on f.program n a.state (looked at (wanted limit x) 0 (page_of t (at / 64)) a.memory)) (word_of_page t at))
      td st (omega arith) (omega arith) lo hi l up
      (λ w₁ ev₁ up₁ same eq₁.
      sound (then sw) w₁ ev₁ eq₁ up₁ (subst (λ (x : Device). Tied n still x h t laid) (sym same) td) st
      (resumed_length a (take words (drop at t)) (omega (arith, length-take words (drop at t))) l) (resumed_small a (take words (drop at t)) sw s))
  sound (lays a h t laid ss pages rq one most room bound then) w ev eq up td st l s =
      let left : ℕ = pages - 1 in
      let e : min left 641 ≡ left = omega arith in
      let many : suc left ≡ pages = omega arith in
      laying left w ev h t ss a.state a.memory laid 0
      (record {
        step_is =
            eq ∙ begins a (Lay laid pages) rq
            ∙ ap (λ (x : ℕ). stepped (image f (machine (Laying laid x 64)) a.state a.memory) (write (place n laid) (bytes_of (take 64 a.memory)))) e;
        up_is = up;
        tied = td;
        stop = st;
        room = omega arith;
        bound = omega arith;
        inside = omega arith;
        length_is = l;
        small_is = s.memory;
      })
      (λ d td₁ w₁ ev₁ up₁ same eq₁.
      sound then w₁ ev₁ eq₁ up₁
      (subst₂ (λ (x : Device) (y : ℕ). Tied n still x h (t ++ take (64 * y) a.memory) (laid + y)) (sym same) many td₁)
      (subst (λ (x : List ℕ). Stop h x ss)
      (sym (take-append-le (64 * last_page h) t (take (64 * pages) a.memory) (omega (arith, td.window.tape_length, td.window.within)))) st)
      (law.resumes_length a.state a.memory ∙ l) (law.resumes_small a.state a.memory s.state s.memory))
  sound (publishes a h t laid ss rq up_first rise inside st₁ then) w ev eq up td st l s =
      publishing w ev h t laid ss a.state a.memory (eq ∙ begins a Publish rq) up td st l s.memory up_first rise inside st₁
      (λ d td₁ w₁ ev₁ up₁ same eq₁.
      sound then w₁ ev₁ eq₁ up₁ (subst (λ (x : Device). Tied n still x (take 32 a.memory) t laid) (sym same) td₁) st₁
      (law.resumes_length a.state a.memory ∙ l) (law.resumes_small a.state a.memory s.state s.memory))
  sound (rows a h t laid ss bytes rq most st₁ then) w ev eq up td st l s =
      let e : min bytes 131072 ≡ bytes = omega arith in
      showing ls w other ev ss (image f (machine Showing) a.state a.memory) (take bytes (bytes_of (take 16384 a.memory))) (safe w.device h t laid ss td st)
      (eq ∙ begins a (Show bytes) rq
      ∙ ap (λ (x : ℕ). stepped (image f (machine Showing) a.state a.memory) (shows (take x (bytes_of (take 16384 a.memory))))) e)
      (sound then (in_memory w (image f (machine Showing) a.state a.memory)) next (goes_on Showing a.state a.memory next l) up td st₁
      (law.resumes_length a.state a.memory ∙ l) (law.resumes_small a.state a.memory s.state s.memory))
  sound (finishes a h t laid ss zero rq most end) w ev eq up td st l s =
      Goes.ends ls w other ev ss (image f (machine Idle) a.state a.memory) (safe w.device h t laid ss td st) (eq ∙ begins a Done rq)
      (refl, a.state, a.memory, h, t, laid, td, refl, up, s.state, s.memory, l, end)
  sound (finishes a h t laid ss (suc reply) rq most end) w ev eq up td st l s =
      refuses ls w other ev ss (image f (machine Idle) a.state a.memory) (suc reply) (safe w.device h t laid ss td st)
      (eq ∙ begins a (Refuse (suc reply)) rq) (
        refl,
        a.state,
        a.memory,
        h,
        t,
        laid,
        td,
        refl,
        up,
        s.state,
        s.memory,
        l,
        subst (λ (x : ℕ). End a.state a.memory h t laid ss x)
            (sym (pick_true (leb 1 (suc reply) && ltb (suc reply) 1000) (suc reply) 1001
            (and_from (leb 1 (suc reply)) (ltb (suc reply) 1000) (le-leb 1 (suc reply) (omega arith)) (lt-ltb (suc reply) 1000 most)))) end,
      )

pub on_the_device : {K : Type 0} (Stop : List ℕ → List ℕ → Rows → Type 0) (End : K → List ℕ → List ℕ → List ℕ → ℕ → Rows → ℕ → Type 0) → OnTheDevice Stop End
unfolding OnTheDevice Well
on_the_device Stop End f law n ls still w other h t laid r k m text td up mem ring l sk sm st goes =
    sound f law n still ls other Stop End goes w (said text)
    (ap (λ (x : List ℕ). (engine f).step x (said text)) mem ∙ step_image f law r k m (said text) l
    ∙ ap (λ (x : ℕ). stored f (begun x (f.program.hears k m text))) ring)
    up td st (law.hears_length k m text ∙ l) (law.hears_small k m text sk sm)
