-- From the obligations about one house at a time to the promise for all houses and all lists of what may happen. Assumes nothing.
use Rattle.std.proofs.Common.{◌≡◌, ℕ, zero, suc, ◌<◌, Bool, true, false, ltb, ◌⊎◌, List, [], ◌∷◌, ◌++◌, length, get_or, set, sym, refl, ap, ◌∙◌, subst, subst₂, inl, inr, arith, length-set, get_or-set_other, get_or-set_same}
use native.Mathlib.Decide.{ℕ_discrete}
use lib.Seq.{set-get_or}
use Rattle.std.proofs.lemmas.Bool.{ltb-true, and_parts}
use Rattle.pages.specs.Lists.{pick, so_many}
use Rattle.pages.specs.Run.{on, World, Ran}
use Rattle.pages.specs.Crash.{Rows, Goes, Ended, Stoppable}
use Rattle.pages.proofs.Crash.{ends_well, stops_well}
use Rattle.house.specs.House.{Plain}
use Rattle.house.specs.Promise.{Never, StillApart, KnownAllowed, Allowed, Item, power, power_stops, whole, stops, flag, set_flag, not_up, proper, world_at, set_world, no_world, new_world, peer, powered, dark, woken, ran_as, worlds_after, Right}
use Rattle.house.specs.Simulation.{Setting, at_first, Relation, PeerHolds, Cut, Over, Outcome, WokenCut, Woken, Turned, Obligations, Simulated}

-- a house that may be given power is one, and has none
dark_flag : (us : List Bool) (c : ℕ) → not_up us c ≡ true → (c < length us) × (flag us c ≡ false)
unfolding not_up
dark_flag us c h = (ltb-true c (length us) (and_parts (ltb c (length us)) (pick (flag us c) false true) h).0, go (flag us c) (and_parts (ltb c (length us)) (pick (flag us c) false true) h).1)
  where
    go : (b : Bool) → pick b false true ≡ true → b ≡ false
    go true e = sym e
    go false e = refl

-- a flag that is set is that of a house
flag_inside : (us : List Bool) (c : ℕ) → flag us c ≡ true → c < length us
flag_inside [] c h = let z : ◌≡◌ {A = ℕ} 0 1 = cc in absurd (omega arith)
flag_inside (u ∷ us) zero h = omega arith
flag_inside (u ∷ us) (suc c) h = let i : c < length us = flag_inside us c h in omega arith

-- what is allowed leaves the plain houses as they were, or as a known command's turn leaves them
pub allowed_next : (s : Setting) (ls : ℕ) (up : Bool) (w : Plain) (c : ℕ) (text : List ℕ) (rows : Rows) (reply : ℕ) (w₁ : Plain) →
    Allowed s.sum s.known s.pages ls up w c text rows reply w₁ → (w₁ ≡ w) ⊎ Turned s w c text w₁
unfolding Allowed KnownAllowed Turned
allowed_next s ls up w c text rows reply w₁ (inl (a, said_a, k, inl t)) = inr (a, said_a, k, t.2)
allowed_next s ls up w c text rows reply w₁ (inl (a, said_a, k, inr (inl t))) = inl t.2
allowed_next s ls up w c text rows reply w₁ (inl (a, said_a, k, inr (inr t))) = inl t.2
allowed_next s ls up w c text rows reply w₁ (inr (inl t)) = inl t.5
allowed_next s ls up w c text rows reply w₁ (inr (inr t)) = inl t.3

-- what stands between two things that happen: all houses hold what they should, by their flags
pub record Standing (Fine : ℕ → Plain → Type 0) (Holds : Relation) (s : Setting) (f : ℕ) (us : List Bool) (vs : List World) (w : Plain) : Type 0 where
  pub worlds_are : length vs ≡ s.houses
  pub flags_are : length us ≡ s.houses
  pub fine : Fine f w
  pub holds : (c : ℕ) → c < s.houses → Holds f c (flag us c) w (world_at vs c)

-- the promise at this setting
abbrev Promised : Setting → List World → Plain → List Item → Type 0
Promised s vs w is = Right s.sum s.known s.engine s.pages vs w is

-- what may be answered at this setting
abbrev MayAnswer : Setting → ℕ → List World → Plain → ℕ → List ℕ → Rows → ℕ → Plain → Type 0
MayAnswer s ls vs w c text ss k w₁ = Allowed s.sum s.known s.pages ls (world_at vs (peer c text)).up w c text ss k w₁

module _ (Fine : ℕ → Plain → Type 0) (Holds : Relation) (s : Setting) (o : Obligations Fine Holds s) where
  -- facts and the other houses, after nothing or after a turn
  fine_after : (f c : ℕ) (w w₁ : Plain) (text : List ℕ) → c < s.houses → Fine (suc f) w → StillApart s.sum w c text →
      ((w₁ ≡ w) ⊎ Turned s w c text w₁) → Fine f w₁
  fine_after f c w w₁ text lt fine apart (inl e) = subst (Fine f) (sym e) (o.fine_idle f w fine)
  fine_after f c w w₁ text lt fine apart (inr t) = o.fine_turn f c w text w₁ lt fine apart t

  others_after : (f c d : ℕ) (up : Bool) (w w₁ : Plain) (text : List ℕ) (v : World) → c < s.houses → (c ≡ d → Never) → Fine (suc f) w →
      StillApart s.sum w c text → ((w₁ ≡ w) ⊎ Turned s w c text w₁) → Holds (suc f) d up w v → Holds f d up w₁ v
  others_after f c d up w w₁ text v lt ne fine apart (inl e) h = subst (λ (u : Plain). Holds f d up u v) (sym e) (o.holds_idle f d up w v h)
  others_after f c d up w w₁ text v lt ne fine apart (inr t) h = o.holds_turn f c d up w text w₁ v lt ne fine apart t h

  -- one house has come to hold something else, and the others hold what they should
  placed : (f : ℕ) (us : List Bool) (vs : List World) (w w₁ : Plain) (c : ℕ) (u : Bool) (v : World) → length vs ≡ s.houses → length us ≡ s.houses →
      c < s.houses → Fine f w₁ → Holds f c u w₁ v → ((d : ℕ) → d < s.houses → (c ≡ d → Never) → Holds f d (flag us d) w₁ (world_at vs d)) →
      Standing Fine Holds s f (set us c u) (set vs c v) w₁
  placed f us vs w w₁ c u v ev eu lt fine h others =
      record {
        worlds_are = length-set vs c v ∙ ev;
        flags_are = length-set us c u ∙ eu;
        fine = fine;
        holds = λ d hd. go d hd (ℕ_discrete c d);
      }
    where
      cu : c < length us
      cu = omega arith

      cv : c < length vs
      cv = omega arith

      go : (d : ℕ) → d < s.houses → Dec (c ≡ d) → Holds f d (flag (set us c u) d) w₁ (world_at (set vs c v) d)
      go d hd (yes e) =
          subst (λ (k : ℕ). Holds f k (flag (set us c u) k) w₁ (world_at (set vs c v) k)) e
          (subst (λ (b : Bool). Holds f c b w₁ (world_at (set vs c v) c)) (sym (get_or-set_same us c u false cu))
          (subst (λ (x : World). Holds f c u w₁ x) (sym (get_or-set_same vs c v no_world cv)) h))
      go d hd (no ne) =
          subst (λ (b : Bool). Holds f d b w₁ (world_at (set vs c v) d)) (sym (get_or-set_other us c d u false (λ e. ne (sym e))))
          (subst (λ (x : World). Holds f d (flag us d) w₁ x) (sym (get_or-set_other vs c d v no_world (λ e. ne (sym e)))) (others d hd (λ e. absurd (ne e))))

  -- the same with the flag as it was
  placed_as_was : (f : ℕ) (us : List Bool) (vs : List World) (w w₁ : Plain) (c : ℕ) (u : Bool) (v : World) → flag us c ≡ u → length vs ≡ s.houses →
      length us ≡ s.houses → c < s.houses → Fine f w₁ → Holds f c u w₁ v →
      ((d : ℕ) → d < s.houses → (c ≡ d → Never) → Holds f d (flag us d) w₁ (world_at vs d)) → Standing Fine Holds s f us (set vs c v) w₁
  placed_as_was f us vs w w₁ c u v e ev eu lt fine h others =
      subst (λ (x : List Bool). Standing Fine Holds s f x (set vs c v) w₁) (ap (λ (b : Bool). set us c b) (sym e) ∙ set-get_or us c false)
      (placed f us vs w w₁ c u v ev eu lt fine h others)

  -- what the other house of a command holds before it
  peer_before : (f : ℕ) (us : List Bool) (vs : List World) (w : Plain) (d : ℕ) → Standing Fine Holds s f us vs w →
      PeerHolds Holds s f d (world_at vs d).up w (world_at vs d)
  peer_before f us vs w d st hd =
      let h = st.holds d hd in subst (λ (b : Bool). Holds f d b w (world_at vs d)) (sym (o.power_known f d (flag us d) w (world_at vs d) h)) h

  -- all houses but that of the command, after it: its peer as said, the others by the frame
  peer_after : (f : ℕ) (us : List Bool) (vs : List World) (w w₁ : Plain) (c d : ℕ) (text : List ℕ) (there : World) → c < s.houses →
      Standing Fine Holds s (suc f) us vs w → StillApart s.sum w c text → ((w₁ ≡ w) ⊎ Turned s w c text w₁) →
      PeerHolds Holds s f d (world_at vs d).up w₁ there → (x : ℕ) → x < s.houses → (c ≡ x → Never) → Holds f x (flag us x) w₁ (world_at (set_world vs d there) x)
  peer_after f us vs w w₁ c d text there lt st apart after peers x hx ne = go (ℕ_discrete d x)
    where
      go : Dec (d ≡ x) → Holds f x (flag us x) w₁ (world_at (set_world vs d there) x)
      go (yes e) =
          let lv : d < length vs = subst (λ (k : ℕ). k < length vs) (sym e) (subst (λ (k : ℕ). x < k) (sym st.worlds_are) hx) in
          let hd : d < s.houses = subst (λ (k : ℕ). k < s.houses) (sym e) hx in
          subst (λ (k : ℕ). Holds f k (flag us k) w₁ (world_at (set_world vs d there) k)) e
          (subst (λ (v : World). Holds f d (flag us d) w₁ v) (sym (get_or-set_same vs d there no_world lv))
          (subst (λ (b : Bool). Holds f d b w₁ there) (o.power_known (suc f) d (flag us d) w (world_at vs d) (st.holds d hd)) (peers hd)))
      go (no nd) =
          subst (λ (v : World). Holds f x (flag us x) w₁ v) (sym (get_or-set_other vs d x there no_world (λ e. nd (sym e))))
          (others_after f c x (flag us x) w w₁ text (world_at vs x) lt ne st.fine apart after (st.holds x hx))

  -- what is left to show of the things that follow, from what then stands
  Rest : ℕ → List Bool → List Item → Type 0
  Rest f us is = (vs : List World) (w : Plain) → Standing Fine Holds s f us vs w → Promised s vs w is

  inside : (f c : ℕ) (us : List Bool) (vs : List World) (w : Plain) → Standing Fine Holds s f us vs w → c < length us → c < s.houses
  inside f c us vs w st h = subst (λ (k : ℕ). c < k) st.flags_are h

  idle : (f c : ℕ) (us : List Bool) (vs : List World) (w : Plain) → Standing Fine Holds s (suc f) us vs w →
      (d : ℕ) → d < s.houses → (c ≡ d → Never) → Holds f d (flag us d) w (world_at vs d)
  idle f c us vs w st d hd ne = o.holds_idle f d (flag us d) w (world_at vs d) (st.holds d hd)

  waking : (f c : ℕ) (us : List Bool) (vs : List World) (w : Plain) → not_up us c ≡ true → Standing Fine Holds s (suc f) us vs w →
      Goes s.engine (WokenCut Holds f c w) (Woken Holds f c w) 0 (powered s.engine (world_at vs c)) no_world
      (on c (length vs) (length (world_at vs c).device.pages)) []
  waking f c us vs w nu st =
      subst
      (λ (h : ℕ). Goes s.engine (WokenCut Holds f c w) (Woken Holds f c w) 0 (powered s.engine (world_at vs c)) no_world
      (on c h (length (world_at vs c).device.pages)) [])
      (sym st.worlds_are)
      (o.wakes f c w (world_at vs c) lt st.fine (subst (λ (b : Bool). Holds (suc f) c b w (world_at vs c)) (dark_flag us c nu).1 (st.holds c lt)))
    where
      lt : c < s.houses
      lt = inside (suc f) c us vs w st (dark_flag us c nu).0

  power_comes : (f c : ℕ) (us : List Bool) (vs : List World) (w : Plain) (is : List Item) → not_up us c ≡ true → Standing Fine Holds s (suc f) us vs w →
      Rest f (set_flag us c true) is → Promised s vs w (power c ∷ is)
  unfolding Right Rest Woken WokenCut
  power_comes f c us vs w is nu st rest = go (ends_well s.engine (WokenCut Holds f c w) (Woken Holds f c w) 1000 (waking f c us vs w nu st))
    where
      go : ((n : ℕ) × Ended (Woken Holds f c w) (woken s.engine n c (length vs) (world_at vs c))) →
          Promised s vs w (power c ∷ is)
      go (n, z) = (
        n,
        z.1,
        z.0,
        rest (set_world vs c (woken s.engine n c (length vs) (world_at vs c)).here) w
            (placed f us vs w w c true (woken s.engine n c (length vs) (world_at vs c)).here st.worlds_are st.flags_are
            (inside (suc f) c us vs w st (dark_flag us c nu).0) (o.fine_idle f w st.fine) z.2 (idle f c us vs w st)),
      )

  power_goes_again : (f c n : ℕ) (cs : List ℕ) (us : List Bool) (vs : List World) (w : Plain) (is : List Item) → not_up us c ≡ true →
      Standing Fine Holds s (suc f) us vs w → Rest f us is → Promised s vs w (power_stops c n cs ∷ is)
  unfolding Right Rest Woken WokenCut
  power_goes_again f c n cs us vs w is nu st rest = go (stops_well s.engine (WokenCut Holds f c w) (Woken Holds f c w) 1000 (waking f c us vs w nu st) n)
    where
      r : Ran
      r = woken s.engine n c (length vs) (world_at vs c)

      on_from : Holds f c false w (dark r.here cs) → Promised s (set_world vs c (dark r.here cs)) w is
      on_from h =
          rest (set_world vs c (dark r.here cs)) w
          (placed_as_was f us vs w w c false (dark r.here cs) (dark_flag us c nu).1 st.worlds_are st.flags_are
          (inside (suc f) c us vs w st (dark_flag us c nu).0) (o.fine_idle f w st.fine) h (idle f c us vs w st))

      go : Ended (Woken Holds f c w) r ⊎ Stoppable (WokenCut Holds f c w) r → Promised s vs w (power_stops c n cs ∷ is)
      go (inl z) = (inl z.1, z.0, on_from (o.goes_dark f c w r.here cs z.2))
      go (inr z) = (inr z.0, z.1.0, on_from (z.1.1 cs))

  -- a command, from what stands before it
  answering : (f c : ℕ) (text : List ℕ) (ls : ℕ) (us : List Bool) (vs : List World) (w : Plain) → flag us c ≡ true → Standing Fine Holds s (suc f) us vs w →
      StillApart s.sum w c text → Outcome Holds s f c w (world_at vs c) (world_at vs (peer c text)) text ls
  answering f c text ls us vs w up st apart =
      o.answers f c w (world_at vs c) (world_at vs (peer c text)) text ls lt st.fine
      (subst (λ (b : Bool). Holds (suc f) c b w (world_at vs c)) up (st.holds c lt)) (peer_before (suc f) us vs w (peer c text) st) apart
    where
      lt : c < s.houses
      lt = inside (suc f) c us vs w st (flag_inside us c up)

  -- and what stands after it
  after_command : (f c : ℕ) (text : List ℕ) (ls : ℕ) (us : List Bool) (vs : List World) (w w₁ : Plain) (u : Bool) (v there : World) → flag us c ≡ true →
      Standing Fine Holds s (suc f) us vs w → StillApart s.sum w c text → ((w₁ ≡ w) ⊎ Turned s w c text w₁) → Holds f c u w₁ v →
      PeerHolds Holds s f (peer c text) (world_at vs (peer c text)).up w₁ there →
      Standing Fine Holds s f (set_flag us c u) (set_world (set_world vs (peer c text) there) c v) w₁
  after_command f c text ls us vs w w₁ u v there up st apart after h peers =
      placed f us (set_world vs (peer c text) there) w w₁ c u v (length-set vs (peer c text) there ∙ st.worlds_are) st.flags_are lt
      (fine_after f c w w₁ text lt st.fine apart after) h (peer_after f us vs w w₁ c (peer c text) text there lt st apart after peers)
    where
      lt : c < s.houses
      lt = inside (suc f) c us vs w st (flag_inside us c up)

  flag_kept : (us : List Bool) (c : ℕ) → flag us c ≡ true → set_flag us c true ≡ us
  flag_kept us c up = ap (λ (b : Bool). set us c b) (sym up) ∙ set-get_or us c false

  command_whole : (f c : ℕ) (text : List ℕ) (ls : ℕ) (us : List Bool) (vs : List World) (w : Plain) (is : List Item) → flag us c ≡ true →
      Standing Fine Holds s (suc f) us vs w → Rest f us is → Promised s vs w (whole c text ls ∷ is)
  unfolding Right Rest Over
  command_whole f c text ls us vs w is up st rest apart =
      end (ends_well s.engine (Cut Holds s f c d other_up w after rows) (Over Holds s f c d other_up after rows out.reply) d out.goes)
    where
      d : ℕ
      d = peer c text

      other_up : Bool
      other_up = (world_at vs d).up

      out : Outcome Holds s f c w (world_at vs c) (world_at vs d) text ls
      out = answering f c text ls us vs w up st apart

      rows : Rows
      rows = out.rows

      after : Plain
      after = out.after

      r : ℕ → Ran
      r n = ran_as s.engine n vs c text ls

      end : ((n : ℕ) × Ended (Over Holds s f c d other_up after rows out.reply) (r n)) →
          (n : ℕ) × (w₁ : Plain) × MayAnswer s ls vs w c text (r n).showed (r n).end w₁ × Promised s (worlds_after vs c text (r n) (r n).here) w₁ is
      end (n, z) = (
        n,
        after,
        subst₂ (λ (x : Rows) (k : ℕ). MayAnswer s ls vs w c text x k after) (sym z.0) (sym z.1) out.allowed,
        rest (worlds_after vs c text (r n) (r n).here) after
            (subst (λ (x : List Bool). Standing Fine Holds s f x (worlds_after vs c text (r n) (r n).here) after) (flag_kept us c up)
            (after_command f c text ls us vs w after true (r n).here (r n).there up st apart
            (allowed_next s ls other_up w c text rows out.reply after out.allowed) z.2 z.3)),
      )

  command_cut : (f c : ℕ) (text : List ℕ) (ls n : ℕ) (cs : List ℕ) (us : List Bool) (vs : List World) (w : Plain) (is : List Item) → flag us c ≡ true →
      Standing Fine Holds s (suc f) us vs w → Rest f (set_flag us c false) is → Promised s vs w (stops c text ls n cs ∷ is)
  unfolding Right Rest Over Cut
  command_cut f c text ls n cs us vs w is up st rest apart =
      go (stops_well s.engine (Cut Holds s f c d other_up w after rows) (Over Holds s f c d other_up after rows out.reply) d out.goes n)
    where
      d : ℕ
      d = peer c text

      other_up : Bool
      other_up = (world_at vs d).up

      out : Outcome Holds s f c w (world_at vs c) (world_at vs d) text ls
      out = answering f c text ls us vs w up st apart

      rows : Rows
      rows = out.rows

      after : Plain
      after = out.after

      r : Ran
      r = ran_as s.engine n vs c text ls

      next_is : (w₁ : Plain) → ((w₁ ≡ w) ⊎ (w₁ ≡ after)) → (w₁ ≡ w) ⊎ Turned s w c text w₁
      next_is w₁ (inl e) = inl e
      next_is w₁ (inr e) =
          subst (λ (x : Plain). (x ≡ w) ⊎ Turned s w c text x) (sym e) (allowed_next s ls other_up w c text rows out.reply after out.allowed)

      on_from : (w₁ : Plain) → ((w₁ ≡ w) ⊎ (w₁ ≡ after)) → Holds f c false w₁ (dark r.here cs) → PeerHolds Holds s f d other_up w₁ r.there →
          Promised s (worlds_after vs c text r (dark r.here cs)) w₁ is
      on_from w₁ e h peers =
          rest (worlds_after vs c text r (dark r.here cs)) w₁
          (after_command f c text ls us vs w w₁ false (dark r.here cs) r.there up st apart (next_is w₁ e) h peers)

      go : Ended (Over Holds s f c d other_up after rows out.reply) r ⊎ Stoppable (Cut Holds s f c d other_up w after rows) r →
          (w₁ : Plain)
          × (MayAnswer s ls vs w c text r.showed r.end w₁
          ⊎ ((r.end ≡ 1000) × (more : Rows) × (reply : ℕ) × (w₂ : Plain) × MayAnswer s ls vs w c text (r.showed ++ more) reply w₂
          × ((w₁ ≡ w) ⊎ (w₁ ≡ w₂))))
          × Promised s (worlds_after vs c text r (dark r.here cs)) w₁ is
      go (inl z) = (
        after,
        inl (subst₂ (λ (x : Rows) (k : ℕ). MayAnswer s ls vs w c text x k after) (sym z.0) (sym z.1) out.allowed),
        on_from after (inr refl) (o.goes_dark f c after r.here cs z.2) z.3,
      )
      go (inr z) =
          let left = z.1.1 cs in
          let front = z.1.0 in (
            left.0,
            inr (
              z.0,
              front.0,
              out.reply,
              after,
              subst (λ (x : Rows). MayAnswer s ls vs w c text x out.reply after) (sym front.1) out.allowed,
              left.1,
            ),
            on_from left.0 left.1 left.2 left.3,
          )

  -- all that happens, one thing after the other
  walk : (is : List Item) (us : List Bool) (vs : List World) (w : Plain) → proper us is ≡ true → Standing Fine Holds s (length is) us vs w → Promised s vs w is
  unfolding Right proper Rest
  walk [] us vs w ok st = refl
  walk (power c ∷ is) us vs w ok st =
      power_comes (length is) c us vs w is (and_parts (not_up us c) (proper (set_flag us c true) is) ok).0 st
      (λ vs₁ w₁ st₁. walk is (set_flag us c true) vs₁ w₁ (and_parts (not_up us c) (proper (set_flag us c true) is) ok).1 st₁)
  walk (power_stops c n cs ∷ is) us vs w ok st =
      power_goes_again (length is) c n cs us vs w is (and_parts (not_up us c) (proper us is) ok).0 st
      (λ vs₁ w₁ st₁. walk is us vs₁ w₁ (and_parts (not_up us c) (proper us is) ok).1 st₁)
  walk (whole c t ls ∷ is) us vs w ok st =
      command_whole (length is) c t ls us vs w is (and_parts (flag us c) (proper us is) ok).0 st
      (λ vs₁ w₁ st₁. walk is us vs₁ w₁ (and_parts (flag us c) (proper us is) ok).1 st₁)
  walk (stops c t ls n cs ∷ is) us vs w ok st =
      command_cut (length is) c t ls n cs us vs w is (and_parts (flag us c) (proper (set_flag us c false) is) ok).0 st
      (λ vs₁ w₁ st₁. walk is (set_flag us c false) vs₁ w₁ (and_parts (flag us c) (proper (set_flag us c false) is) ok).1 st₁)

pub length_so_many : {A : Type 0} (n : ℕ) (x : A) → length (so_many n x) ≡ n
unfolding so_many
length_so_many zero x = refl
length_so_many (suc n) x = ap suc (length_so_many n x)

so_many_at : {A : Type 0} (n c : ℕ) (x y : A) → c < n → get_or (so_many n x) c y ≡ x
unfolding so_many
so_many_at zero c x y h = absurd (omega arith)
so_many_at (suc n) zero x y h = refl
so_many_at (suc n) (suc c) x y h = so_many_at n c x y (omega arith)

pub simulated : (Fine : ℕ → Plain → Type 0) (Holds : Relation) → Simulated Fine Holds
unfolding Simulated
simulated Fine Holds s o is ok fine held =
    walk Fine Holds s o is (so_many s.houses false) (so_many s.houses (new_world s.pages)) (at_first s) ok
    (record {
      worlds_are = length_so_many s.houses (new_world s.pages);
      flags_are = length_so_many s.houses false;
      fine = fine;
      holds =
          λ c lt.
          subst₂ (λ (b : Bool) (v : World). Holds (length is) c b (at_first s) v) (sym (so_many_at s.houses c false false lt))
          (sym (so_many_at s.houses c (new_world s.pages) no_world lt)) (held c lt);
    })
