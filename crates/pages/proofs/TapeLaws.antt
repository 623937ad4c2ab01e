-- What a device holds of a tape stays held: when a page is laid behind it, at a flush, when a new head is written, after a stop. Assumes nothing.
use Rattle.std.proofs.Common.{◌≡◌, ℕ, zero, suc, ◌+◌, ◌*◌, ◌/◌, ◌%◌, ◌^◌, ◌<◌, ◌≤◌, Bool, true, false, eqb, ◌≢◌, ◌⊎◌, List, [], ◌∷◌, ◌++◌, length, take, drop, sym, refl, ap, ◌∙◌, subst, ap₂, inl, inr, mod-lt, mul-le-mul_left, mul-suc, arith, length-append, length-drop, take-append-drop}
use Rattle.std.proofs.lemmas.Bool.{eqb-false, ne_eqb, cases_lt, false≢true}
use Rattle.std.proofs.lemmas.List.{take_at, drop_at, take_all, take-append-le, drop-append-le, length-take-le}
use Rattle.pages.specs.Lists.{pick, zeros}
use Rattle.pages.specs.Device.{Device, Page, Write, page_at, set_page, all_written, left, half, flushed, stopped, read_page, blank}
use Rattle.pages.specs.Bytes.{in_bytes}
use Rattle.pages.specs.Words.{bytes_of, small}
use Rattle.pages.specs.Laws.{elsewhere}
use Rattle.pages.specs.Run.{queued}
use Rattle.pages.specs.Machine.{place, head_page}
use Rattle.pages.specs.Tape.{first_page, last_page, page_of, published, Window, Tied}
use Rattle.pages.proofs.ListLaws.{pick_false, pick_both}
use Rattle.pages.proofs.WordLaws.{small_append, small_take, length_bytes_of}
use Rattle.pages.proofs.DeviceLaws.{page_at_set_other, left_elsewhere}

-- DEVICES
pub page_at_set_same : (ps : List Page) (k : ℕ) (p : Page) → k < length ps → page_at (set_page ps k p) k ≡ p
unfolding page_at set_page
page_at_set_same [] k p h = absurd (omega arith)
page_at_set_same (q ∷ qs) zero p h = refl
page_at_set_same (q ∷ qs) (suc k) p h = page_at_set_same qs k p (omega arith)

pub length_set_page : (ps : List Page) (k : ℕ) (p : Page) → length (set_page ps k p) ≡ length ps
unfolding set_page
length_set_page [] k p = refl
length_set_page (q ∷ qs) zero p = refl
length_set_page (q ∷ qs) (suc k) p = ap suc (length_set_page qs k p)

pub length_all_written : (qs : List Write) (ps : List Page) → length (all_written ps qs) ≡ length ps
unfolding all_written
length_all_written [] ps = refl
length_all_written (w ∷ ws) ps = length_all_written ws (set_page ps w.at w.page) ∙ length_set_page ps w.at w.page

pub length_left : (qs : List Write) (ps : List Page) (cs : List ℕ) → length (left ps qs cs) ≡ length ps
unfolding left
length_left [] ps cs = refl
length_left (w ∷ ws) ps [] = refl
length_left (w ∷ ws) ps (c ∷ cs) =
    length_left ws _ cs
    ∙ pick_both (λ (x : List Page). length x ≡ length ps) (eqb c 1) _ _ (λ _. length_set_page ps w.at w.page)
    (λ _. pick_both (λ (x : List Page). length x ≡ length ps) (eqb c 2) _ _ (λ _. length_set_page ps w.at (half w.page (page_at ps w.at))) (λ _. refl))

elsewhere_parts : (k : ℕ) (w : Write) (ws : List Write) → elsewhere k (w ∷ ws) ≡ true → (w.at ≡ k → ⊥) × (elsewhere k ws ≡ true)
unfolding elsewhere
elsewhere_parts k w ws h =
    pick_both (λ x. x ≡ true → (w.at ≡ k → ⊥) × (elsewhere k ws ≡ true)) (eqb w.at k) false (elsewhere k ws) (λ _ n. absurd (false≢true n))
    (λ e n. (eqb-false w.at k e, n)) h

pub elsewhere_append : (k : ℕ) (qs : List Write) (w : Write) → elsewhere k qs ≡ true → (w.at ≡ k → ⊥) → elsewhere k (qs ++ w ∷ []) ≡ true
unfolding elsewhere
elsewhere_append k [] w h ne = pick_false (eqb w.at k) false true (ne_eqb w.at k ne)
elsewhere_append k (q ∷ qs) w h ne =
    let p = elsewhere_parts k q qs h in pick_false (eqb q.at k) false (elsewhere k (qs ++ w ∷ [])) (ne_eqb q.at k p.0) ∙ elsewhere_append k qs w p.1 ne

-- a page for which nothing waits is read as it stands
pub read_elsewhere : (qs : List Write) (ps : List Page) (k : ℕ) → elsewhere k qs ≡ true → page_at (all_written ps qs) k ≡ page_at ps k
unfolding all_written
read_elsewhere [] ps k h = refl
read_elsewhere (w ∷ ws) ps k h =
    let p = elsewhere_parts k w ws h in
    read_elsewhere ws (set_page ps w.at w.page) k p.1 ∙ page_at_set_other ps w.at k w.page p.0

pub written_append : (qs : List Write) (ps : List Page) (w : Write) → all_written ps (qs ++ w ∷ []) ≡ set_page (all_written ps qs) w.at w.page
unfolding all_written
written_append [] ps w = refl
written_append (q ∷ qs) ps w = written_append qs (set_page ps q.at q.page) w

-- THE RING. Two virtual pages that are less than the ring apart have different places, and none has the head's.
pub place_is : (n v : ℕ) → 1 ≤ n → place n v ≡ suc (v % n)
unfolding place
place_is n v h =
    let ne : n ≢ 0 = omega arith in
    let e : 1 + v % n ≡ suc (v % n) = omega arith in pick_false (eqb n 0) 1 (1 + v % n) (ne_eqb n 0 ne) ∙ e

pub place_inside : (n v : ℕ) → 1 ≤ n → place n v < suc n
place_inside n v h = let b : v % n < n = mod-lt v h in omega (arith, place_is n v h)

pub place_not_head : (n v : ℕ) → 1 ≤ n → place n v ≡ 0 → ⊥
place_not_head n v h e = let z : suc (v % n) ≡ 0 = sym (place_is n v h) ∙ e in omega arith

pub place_apart : (n v u : ℕ) → 1 ≤ n → v < u → u < v + n → place n u ≡ place n v → ⊥
place_apart n v u h l r e = go (sym (place_is n u h) ∙ e ∙ place_is n v h) (cases_lt (v / n) (u / n))
  where
    go : suc (u % n) ≡ suc (v % n) → (v / n < u / n) ⊎ (u / n ≤ v / n) → ⊥
    go same (inl q) =
        let m : n * suc (v / n) ≤ n * (u / n) = mul-le-mul_left n q in let s : n * suc (v / n) ≡ n * (v / n) + n = mul-suc n (v / n) in omega arith
    go same (inr q) = let m : n * (u / n) ≤ n * (v / n) = mul-le-mul_left n q in omega arith

-- THE TAPE
pub page_of_append : (t ws : List ℕ) (v : ℕ) → 64 * suc v ≤ length t → page_of (t ++ ws) v ≡ page_of t v
page_of_append t ws v h =
    ap (take 64) (drop-append-le (64 * v) t ws (omega arith)) ∙ take-append-le 64 (drop (64 * v) t) ws (omega (arith, length-drop (64 * v) t))

pub page_of_end : (t ws : List ℕ) (v : ℕ) → length t ≡ 64 * v → length ws ≡ 64 → page_of (t ++ ws) v ≡ ws
page_of_end t ws v e l = ap (take 64) (drop_at t ws (64 * v) e) ∙ take_all 64 ws (omega arith)

pub page_of_take : (t : List ℕ) (l v : ℕ) → v < l → 64 * l ≤ length t → page_of (take (64 * l) t) v ≡ page_of t v
page_of_take t l v h b =
    ap (λ x. page_of x v) refl
    ∙ sym (page_of_append (take (64 * l) t) (drop (64 * l) t) v (omega (arith, length-take-le (64 * l) t b))) ∙ ap (λ x. page_of x v) (take-append-drop (64 * l) t)

-- WHAT IS HELD STAYS HELD
pub tied_lay : (n : ℕ) (q : Bool) (d : Device) (h t : List ℕ) (laid : ℕ) (ws : List ℕ) → Tied n q d h t laid → suc laid ≤ first_page h + n →
    64 * suc laid < 2 ^ 64 → length ws ≡ 64 → small ws ≡ true → Tied n q (queued d (place n laid) (bytes_of ws)) h (t ++ ws) (suc laid)
tied_lay n q d h t laid ws td room bound l s =
    record {
      window =
          record {
            ring = w.ring;
            head_length = w.head_length;
            head_small = w.head_small;
            tape_length = omega (arith, length-append t ws, w.tape_length);
            tape_small = small_append t ws w.tape_small s;
            bounded = bound;
            rising = w.rising;
            within = omega (arith, w.within);
            room = room;
          };
      pages = td.pages;
      head = td.head;
      seen = seen_then;
      head_waits = elsewhere_append 0 d.queue new td.head_waits (place_not_head n laid w.ring);
      waits =
          λ v lo hi.
          elsewhere_append (place n v) d.queue new (td.waits v lo hi)
          (place_apart n v laid w.ring (omega (arith, w.within)) (omega arith));
      stills = λ _ e. absurd (omega (arith, w.within));
    }
  where
    w : Window n h t laid
    w = td.window

    new : Write
    new = record { at = place n laid; page = bytes_of ws }

    reads : (v : ℕ) → read_page (queued d (place n laid) (bytes_of ws)) v ≡ page_at (set_page (all_written d.pages d.queue) (place n laid) (bytes_of ws)) v
    reads v = ap (λ ps. page_at ps v) (written_append d.queue d.pages new)

    seen_then : (v : ℕ) → first_page h ≤ v → v < suc laid → read_page (queued d (place n laid) (bytes_of ws)) (place n v) ≡ bytes_of (page_of (t ++ ws) v)
    seen_then v lo hi = go (cases_lt v laid)
      where
        go : (v < laid) ⊎ (laid ≤ v) → read_page (queued d (place n laid) (bytes_of ws)) (place n v) ≡ bytes_of (page_of (t ++ ws) v)
        go (inl b) =
            reads (place n v)
            ∙ page_at_set_other (all_written d.pages d.queue) (place n laid) (place n v) (bytes_of ws) (place_apart n v laid w.ring b (omega arith))
            ∙ td.seen v lo b ∙ ap bytes_of (sym (page_of_append t ws v (omega (arith, w.tape_length))))
        go (inr b) =
            let e : v ≡ laid = omega arith in
            subst (λ x. read_page (queued d (place n laid) (bytes_of ws)) (place n x) ≡ bytes_of (page_of (t ++ ws) x)) (sym e)
            (reads (place n laid)
            ∙ page_at_set_same (all_written d.pages d.queue) (place n laid) (bytes_of ws)
            (let z : place n laid < suc n = place_inside n laid w.ring in omega (arith, length_all_written d.queue d.pages, td.pages))
            ∙ ap bytes_of (sym (page_of_end t ws laid w.tape_length l)))

pub tied_flush : (n : ℕ) (q : Bool) (d : Device) (h t : List ℕ) (laid : ℕ) → Tied n q d h t laid → Tied n q (flushed d) h t laid
unfolding all_written elsewhere
tied_flush n q d h t laid td =
    record {
      window = td.window;
      pages = length_all_written d.queue d.pages ∙ td.pages;
      head = read_elsewhere d.queue d.pages 0 td.head_waits ∙ td.head;
      seen = td.seen;
      head_waits = refl;
      waits = λ v lo hi. refl;
      stills = λ _ _. refl;
    }

-- after a stop the head is there with its window
pub tied_stopped : (n : ℕ) (q : Bool) (d : Device) (h t : List ℕ) (laid : ℕ) (cs : List ℕ) → Tied n q d h t laid →
    Tied n true (stopped d cs) h (published h t) (last_page h)
unfolding all_written elsewhere
tied_stopped n q d h t laid cs td =
    record {
      window =
          record {
            ring = w.ring;
            head_length = w.head_length;
            head_small = w.head_small;
            tape_length = length-take-le (64 * last_page h) t inside;
            tape_small = small_take (64 * last_page h) t w.tape_small;
            bounded = omega (arith, w.within, w.bounded);
            rising = w.rising;
            within = omega arith;
            room = omega (arith, w.within, w.room);
          };
      pages = length_left d.queue d.pages cs ∙ td.pages;
      head = left_elsewhere d.queue d.pages cs 0 td.head_waits ∙ td.head;
      seen =
          λ v lo hi.
          left_elsewhere d.queue d.pages cs (place n v) (td.waits v lo hi)
          ∙ sym (read_elsewhere d.queue d.pages (place n v) (td.waits v lo hi)) ∙ td.seen v lo (omega (arith, w.within))
          ∙ ap bytes_of (sym (page_of_take t (last_page h) v hi inside));
      head_waits = refl;
      waits = λ v lo hi. refl;
      stills = λ _ _. refl;
    }
  where
    w : Window n h t laid
    w = td.window

    inside : 64 * last_page h ≤ length t
    inside = omega (arith, w.within, w.tape_length)

-- what was laid behind the window is forgotten
pub tied_again : (n : ℕ) (q : Bool) (d : Device) (h t : List ℕ) (laid : ℕ) → Tied n q d h t laid → Tied n false d h (published h t) (last_page h)
tied_again n q d h t laid td =
    record {
      window = (tied_stopped n q d h t laid [] td).window;
      pages = td.pages;
      head = td.head;
      seen =
          λ v lo hi.
          td.seen v lo (omega (arith, td.window.within))
          ∙ ap bytes_of (sym (page_of_take t (last_page h) v hi (omega (arith, td.window.within, td.window.tape_length))));
      head_waits = td.head_waits;
      waits = td.waits;
      stills = λ e _. absurd (false≢true e);
    }

-- a new head on flushed pages
pub tied_head : (n : ℕ) (q : Bool) (ps : List Page) (h t : List ℕ) (laid : ℕ) (new : List ℕ) (page : Page) →
    Tied n q (record { pages = ps; queue = [] }) h t laid → first_page h ≤ first_page new → first_page new ≤ last_page new → last_page new ≤ laid →
    length new ≡ 32 → small new ≡ true → page ≡ head_page new → Tied n q (record { pages = set_page ps 0 page; queue = [] }) new t laid
unfolding all_written elsewhere
tied_head n q ps h t laid new page td up rise inside l s e =
    record {
      window =
          record {
            ring = w.ring;
            head_length = l;
            head_small = s;
            tape_length = w.tape_length;
            tape_small = w.tape_small;
            bounded = w.bounded;
            rising = rise;
            within = inside;
            room = omega (arith, w.room);
          };
      pages = length_set_page ps 0 page ∙ td.pages;
      head = page_at_set_same ps 0 page (omega (arith, td.pages)) ∙ e;
      seen =
          λ v lo hi. page_at_set_other ps 0 (place n v) page (λ z. place_not_head n v w.ring (sym z)) ∙ td.seen v (omega arith) hi;
      head_waits = refl;
      waits = λ v lo hi. refl;
      stills = λ _ _. refl;
    }
  where
    w : Window n h t laid
    w = td.window

-- half of a head's page over another's is the whole of it: both are 0 behind
pub half_head : (new old : List ℕ) → length new ≡ 32 → length old ≡ 32 → half (head_page new) (head_page old) ≡ head_page new
unfolding half head_page
half_head new old l k =
    ap₂ (λ xs ys. xs ++ ys)
    (take_at (bytes_of (take 32 new)) (zeros 256) 256 (length_bytes_of (take 32 new) ∙ ap (λ m. 8 * m) (length-take-le 32 new (omega arith))))
    (drop_at (bytes_of (take 32 old)) (zeros 256) 256 (length_bytes_of (take 32 old) ∙ ap (λ m. 8 * m) (length-take-le 32 old (omega arith))))

-- a stop while the head is being written leaves the old one or the new one
pub tied_heading : (n : ℕ) (q : Bool) (ps : List Page) (h t : List ℕ) (laid : ℕ) (new : List ℕ) (cs : List ℕ) →
    Tied n q (record { pages = ps; queue = [] }) h t laid → first_page h ≤ first_page new → first_page new ≤ last_page new → last_page new ≤ laid →
    length new ≡ 32 → small new ≡ true →
    let d : Device = queued (record { pages = ps; queue = [] }) 0 (head_page new) in
    Tied n true (stopped d cs) h (published h t) (last_page h) ⊎ Tied n true (stopped d cs) new (published new t) (last_page new)
unfolding left
tied_heading n q ps h t laid new [] td up rise inside l s = inl (tied_stopped n q (record { pages = ps; queue = [] }) h t laid [] td)
tied_heading n q ps h t laid new (c ∷ cs) td up rise inside l s =
    pick_both Either (eqb c 1) (set_page ps 0 (head_page new)) (pick (eqb c 2) (set_page ps 0 (half (head_page new) (page_at ps 0))) ps)
    (λ _. inr (there (head_page new) refl))
    (λ _. pick_both Either (eqb c 2) (set_page ps 0 (half (head_page new) (page_at ps 0))) ps
    (λ _. inr (there (half (head_page new) (page_at ps 0)) (ap (half (head_page new)) td.head ∙ half_head new h l td.window.head_length)))
    (λ _. inl (tied_stopped n q (record { pages = ps; queue = [] }) h t laid [] td)))
  where
    Either : List Page → Type 0
    Either x =
        Tied n true (record { pages = x; queue = [] }) h (published h t) (last_page h) ⊎ Tied n true (record { pages = x; queue = [] }) new (published new t) (last_page new)

    there : (page : Page) → page ≡ head_page new → Tied n true (record { pages = set_page ps 0 page; queue = [] }) new (published new t) (last_page new)
    there page e =
        tied_stopped n q (record { pages = set_page ps 0 page; queue = [] }) new t laid [] (tied_head n q ps h t laid new page td up rise inside l s e)

-- a new device holds a head of zeros and an empty tape
pub tied_new : (n : ℕ) → 1 ≤ n → Tied n true (record { pages = blank (suc n); queue = [] }) (zeros 32) [] 0
unfolding page_at blank head_page bytes_of zeros elsewhere small in_bytes
tied_new n h =
    record {
      window =
          record {
            ring = h;
            head_length = refl;
            head_small = refl;
            tape_length = refl;
            tape_small = refl;
            bounded = omega arith;
            rising = omega arith;
            within = omega arith;
            room = omega arith;
          };
      pages = length_blank (suc n);
      head = refl;
      seen = λ v lo hi. absurd (omega arith);
      head_waits = refl;
      waits = λ v lo hi. refl;
      stills = λ _ _. refl;
    }
  where
    length_blank : (k : ℕ) → length (blank k) ≡ k
    length_blank zero = refl
    length_blank (suc k) = ap suc (length_blank k)
