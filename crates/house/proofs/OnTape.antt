-- What is shown of a client on its tape, one command at a time, gives the obligations of a house. Assumes nothing.
use Rattle.std.proofs.Common.{◌≡◌, ℕ, suc, ◌-◌, ◌*◌, ◌<◌, ◌≤◌, min, max, Bool, true, false, eqb, ◌⊎◌, List, [], ◌∷◌, ◌++◌, length, sym, refl, ap, ◌∙◌, subst, subst₂, inl, inr, arith}
use Rattle.std.proofs.lemmas.List.{take-take, take_all}
use Rattle.std.proofs.lemmas.Bool.{false≢true, eqb-false}
use Rattle.pages.specs.Lists.{zeros}
use Rattle.pages.specs.Bytes.{from_bytes}
use Rattle.pages.specs.Words.{small}
use Rattle.pages.specs.Device.{Device}
use Rattle.pages.specs.Run.{World, on, said, done}
use Rattle.pages.specs.Crash.{Rows, stepped, Goes, ends}
use Rattle.pages.specs.Engine.{Housed, Lawful, image, stored, engine, bulk_cells}
use Rattle.pages.specs.Machine.{served}
use Rattle.pages.specs.Tape.{last_page, published, Tied, Safe, Held, OnTheDevice}
use Rattle.pages.specs.declared.machine.Serving.TheVariants.{Idle}
use Rattle.pages.proofs.ListLaws.{pick_both}
use Rattle.pages.proofs.WordLaws.{zeros_append, length_zeros, small_zeros}
use Rattle.pages.proofs.Crash.{goes_weaken}
use Rattle.pages.proofs.TapeLaws.{tied_stopped, tied_again}
use Rattle.pages.proofs.EngineLaws.{step_image}
use Rattle.pages.proofs.Sound.{on_the_device}
use Rattle.house.specs.House.{Plain}
use Rattle.house.specs.Promise.{Never, StillApart, peer, powered, no_world}
use Rattle.house.specs.Simulation.{Setting, lightless, Relation, PeerHolds, Cut, Over, Outcome, WokenCut, Woken, Turned, Obligations}
use Rattle.house.specs.OnTape.{Resident, Holding, StopStands, EndStands, Answered, Kept}
use Rattle.house.proofs.Simulation.{allowed_next}

-- a house is not its own peer
peer_apart : (c : ℕ) (text : List ℕ) → c < 16 → peer c text ≡ c → ⊥
unfolding peer
peer_apart c [] h e = omega arith
peer_apart c (b ∷ bs) h e =
    pick_both (λ x. x ≡ c → ⊥) (eqb b 19) _ _
    (λ _. pick_both (λ x. x ≡ c → ⊥) (eqb (from_bytes 0 bs) c) _ _ (λ _ e₁. omega arith) (λ n e₁. eqb-false (from_bytes 0 bs) c n e₁)) (λ _ e₁. omega arith) e

published_twice : (h t : List ℕ) → published h (published h t) ≡ published h t
published_twice h t = take-take (64 * last_page h) (64 * last_page h) t (omega arith)

module _ {K : Type 0} (f : Housed K) (law : Lawful f) (Knows : ℕ → K → Type 0) (Fine : ℕ → Plain → Type 0) (Stands : ℕ → ℕ → Plain → List ℕ → List ℕ → Type 0)
    (s : Setting) (n : ℕ) (kept : Kept f Knows Fine Stands s n) where
  Holds : Relation
  Holds = Holding f Knows Stands n

  -- the same world, for other plain houses
  stands_for : (things things₁ c : ℕ) (up : Bool) (w w₁ : Plain) (v : World) → (x : Holding f Knows Stands n things c up w v) →
      Stands things₁ c w₁ x.head (published x.head x.tape) → Holding f Knows Stands n things₁ c up w₁ v
  stands_for things things₁ c up w w₁ v x st =
      record { power = x.power; still = x.still; head = x.head; tape = x.tape; laid = x.laid; tied = x.tied; stands = st; resident = x.resident }

  idle : (things c : ℕ) (up : Bool) (w : Plain) (v : World) → Holding f Knows Stands n (suc things) c up w v → Holding f Knows Stands n things c up w v
  idle things c up w v x = stands_for (suc things) things c up w w v x (kept.stands_idle things c w x.head (published x.head x.tape) x.stands)

  turned : (things c d : ℕ) (up : Bool) (w : Plain) (text : List ℕ) (w₁ : Plain) (v : World) → c < s.houses → (c ≡ d → Never) → Fine (suc things) w →
      StillApart s.sum w c text → Turned s w c text w₁ → Holding f Knows Stands n (suc things) d up w v → Holding f Knows Stands n things d up w₁ v
  turned things c d up w text w₁ v lt ne fine apart t x =
      stands_for (suc things) things d up w w₁ v x
      (kept.stands_turn things c d w text w₁ x.head (published x.head x.tape) lt ne fine apart t x.stands)

  -- after a stop: the head is there with its window
  dark : (things c : ℕ) (w : Plain) (d : Device) (still : Bool) (h t : List ℕ) (laid : ℕ) (cs : List ℕ) → Tied n still d h t laid →
      Stands things c w h (published h t) → Holding f Knows Stands n things c false w (lightless d cs)
  dark things c w d still h t laid cs td st =
      record {
        power = refl;
        still = true;
        head = h;
        tape = published h t;
        laid = last_page h;
        tied = tied_stopped n still d h t laid cs td;
        stands = subst (Stands things c w h) (sym (published_twice h t)) st;
        resident = λ e. absurd (false≢true e);
      }

  -- power comes: memory is all 0, and one step ends it
  start_is : (engine f).start ≡ image f (record { ring = 0; serving = Idle }) kept.blank_state (zeros bulk_cells)
  unfolding engine zeros
  start_is =
      sym (ap (λ (x : List ℕ). zeros 8 ++ (x ++ zeros bulk_cells)) kept.blank_saved ∙ ap (λ (x : List ℕ). zeros 8 ++ x) (zeros_append 120 bulk_cells)
      ∙ zeros_append 8 262136)

  waking : (things c : ℕ) (w : Plain) (v : World) → c < s.houses → suc n ≡ s.pages → suc n ≤ 1048576 → Holding f Knows Stands n (suc things) c false w v →
      Goes (engine f) (WokenCut Holds things c w) (Woken Holds things c w) 0 (powered (engine f) v) no_world (on c s.houses (length v.device.pages)) []
  unfolding WokenCut Woken Holds
  waking things c w v lt many most x =
      ends 0 (powered (engine f) v) no_world (on c s.houses (length v.device.pages)) [] (image f (record { ring = n; serving = Idle }) k (zeros bulk_cells))
      (refl, λ cs. dark things c w v.device y.still y.head y.tape y.laid cs y.tied y.stands) step_is (
        refl,
        refl,
        record {
          power = refl;
          still = y.still;
          head = y.head;
          tape = y.tape;
          laid = y.laid;
          tied = y.tied;
          stands = y.stands;
          resident =
              λ _.
              record {
                machine = record { ring = n; serving = Idle };
                state = k;
                bulk = zeros bulk_cells;
                memory_is = refl;
                ring_is = refl;
                bulk_length = length_zeros bulk_cells;
                state_small = law.wakes_small kept.blank_state c s.houses s.pages (ap small kept.blank_saved ∙ small_zeros 120);
                bulk_small = small_zeros bulk_cells;
                knows = kept.wakes_knowing c lt;
              };
        },
      )
    where
      y : Holding f Knows Stands n things c false w v
      y = idle things c false w v x

      k : K
      k = f.program.wakes kept.blank_state c s.houses s.pages

      ps : length v.device.pages ≡ s.pages
      ps = x.tied.pages ∙ many

      ring_is : max 1 (min s.pages 18446744073709551615 - 1) ≡ n
      ring_is = omega (arith, x.tied.window.ring)

      step_is : (engine f).step (engine f).start (on c s.houses (length v.device.pages)) ≡ stepped (image f (record { ring = n; serving = Idle }) k (zeros bulk_cells)) done
      step_is =
          ap (λ (m : List ℕ). (engine f).step m (on c s.houses (length v.device.pages))) start_is
          ∙ step_image f law (record { ring = 0; serving = Idle }) kept.blank_state (zeros bulk_cells) (on c s.houses (length v.device.pages)) (length_zeros bulk_cells)
          ∙ ap (λ (j : ℕ). stored f (served f.program (record { ring = 0; serving = Idle }) kept.blank_state (zeros bulk_cells) (on c s.houses j))) ps
          ∙ ap (λ (j : ℕ). stepped (image f (record { ring = j; serving = Idle }) k (zeros bulk_cells)) done) ring_is

  -- a command: what was shown of it on the tape, on the device
  answering : (things c : ℕ) (w : Plain) (v there : World) (text : List ℕ) (ls : ℕ) → c < s.houses → s.houses ≤ 16 → s.engine ≡ engine f → Fine (suc things) w →
      Holding f Knows Stands n (suc things) c true w v → PeerHolds Holds s (suc things) (peer c text) there.up w there → StillApart s.sum w c text →
      Outcome Holds s things c w v there text ls
  unfolding Holds OnTheDevice Safe Held Cut Over StopStands EndStands
  answering things c w v there text ls lt few same fine x peers apart =
      record {
        rows = out.rows;
        reply = out.reply;
        after = out.after;
        allowed = out.allowed ls there.up;
        goes =
            subst (λ e. Goes e (Cut Holds s things c d up w out.after out.rows) (Over Holds s things c d up out.after out.rows out.reply) ls v there (said text) [])
            (sym same)
            (goes_weaken (engine f) (Safe n (StopStands Stands things c w out.after out.rows) there) (Cut Holds s things c d up w out.after out.rows)
            (Held f n false (EndStands Knows Stands things c out.after out.rows out.reply) there)
            (Over Holds s things c d up out.after out.rows out.reply) cut over
            (on_the_device (StopStands Stands things c w out.after out.rows) (EndStands Knows Stands things c out.after out.rows out.reply) f law n ls
            false v there x.head (published x.head x.tape) (last_page x.head) r.machine r.state r.bulk text td x.power r.memory_is r.ring_is
            r.bulk_length r.state_small r.bulk_small at_first out.does));
      }
    where
      d : ℕ
      d = peer c text

      up : Bool
      up = there.up

      r : Resident f Knows n c v.memory
      r = x.resident refl

      td : Tied n false v.device x.head (published x.head x.tape) (last_page x.head)
      td = tied_again n x.still v.device x.head x.tape x.laid x.tied

      out : Answered f Knows Stands s n things c w r.state r.bulk x.head (published x.head x.tape) text
      out =
          kept.answers things c w r.state r.bulk x.head (published x.head x.tape) text lt fine x.stands td.window r.bulk_length r.knows apart

      at_first : StopStands Stands things c w out.after out.rows x.head (published x.head (published x.head x.tape)) []
      at_first = (
        (out.rows, refl),
        (
          w,
          inl refl,
          subst (Stands things c w x.head) (sym (published_twice x.head x.tape))
              (kept.stands_idle things c w x.head (published x.head x.tape) x.stands),
        ),
      )

      next_is : (w₁ : Plain) → ((w₁ ≡ w) ⊎ (w₁ ≡ out.after)) → (w₁ ≡ w) ⊎ Turned s w c text w₁
      next_is w₁ (inl e) = inl e
      next_is w₁ (inr e) =
          subst (λ (u : Plain). (u ≡ w) ⊎ Turned s w c text u) (sym e) (allowed_next s ls up w c text out.rows out.reply out.after (out.allowed ls up))

      peers_then : (w₁ : Plain) → ((w₁ ≡ w) ⊎ Turned s w c text w₁) → (v₁ : World) → v₁ ≡ there → PeerHolds Holds s things d up w₁ v₁
      peers_then w₁ (inl e) v₁ q hd =
          subst₂ (λ (u : Plain) (z : World). Holding f Knows Stands n things d up u z) (sym e) (sym q) (idle things d up w there (peers hd))
      peers_then w₁ (inr t) v₁ q hd =
          subst (λ (z : World). Holding f Knows Stands n things d up w₁ z) (sym q)
          (turned things c d up w text w₁ there lt (λ e. absurd (peer_apart c text (omega arith) (sym e))) fine apart t (peers hd))

      cut : (dev : Device) (v₁ : World) (ss : Rows) → Safe n (StopStands Stands things c w out.after out.rows) there dev v₁ ss →
          Cut Holds s things c d up w out.after out.rows dev v₁ ss
      cut dev v₁ ss safe = (
        (safe.1 []).3.0,
        λ cs.
            let y = safe.1 cs in
            let z = y.3.1 in (
              z.0,
              z.1,
              record {
                power = refl;
                still = true;
                head = y.0;
                tape = y.1;
                laid = last_page y.0;
                tied = y.2;
                stands = subst (Stands things c z.0 y.0) (sym (take_all (64 * last_page y.0) y.1 (omega (arith, y.2.window.tape_length)))) z.2;
                resident = λ e. absurd (false≢true e);
              },
              peers_then z.0 (next_is z.0 z.1) v₁ safe.0,
            ),
      )

      over : (w₁ v₁ : World) (ss : Rows) (end : ℕ) → Held f n false (EndStands Knows Stands things c out.after out.rows out.reply) there w₁ v₁ ss end →
          Over Holds s things c d up out.after out.rows out.reply w₁ v₁ ss end
      over w₁ v₁ ss end held =
          let z = held.12 in (
            z.0,
            z.1,
            record {
              power = held.8;
              still = false;
              head = held.3;
              tape = held.4;
              laid = held.5;
              tied = held.6;
              stands = z.2;
              resident =
                  λ _.
                  record {
                    machine = record { ring = n; serving = Idle };
                    state = held.1;
                    bulk = held.2;
                    memory_is = held.7;
                    ring_is = refl;
                    bulk_length = held.11;
                    state_small = held.9;
                    bulk_small = held.10;
                    knows = z.3;
                  };
            },
            peers_then out.after (next_is out.after (inr refl)) v₁ held.0,
          )

  pub obligations : s.engine ≡ engine f → s.houses ≤ 16 → suc n ≡ s.pages → suc n ≤ 1048576 → Obligations Fine (Holding f Knows Stands n) s
  unfolding Holds
  obligations same few many most =
      record {
        power_known = λ things c up w v x. x.power;
        fine_idle = kept.fine_idle;
        holds_idle = idle;
        fine_turn = kept.fine_turn;
        holds_turn = turned;
        goes_dark = λ things c w v cs x. dark things c w v.device x.still x.head x.tape x.laid cs x.tied x.stands;
        wakes =
            λ things c w v lt fine x.
            subst (λ e. Goes e (WokenCut Holds things c w) (Woken Holds things c w) 0 (powered e v) no_world (on c s.houses (length v.device.pages)) []) (sym same)
            (waking things c w v lt many most x);
        answers = λ things c w v there text ls lt fine x peers apart. answering things c w v there text ls lt few same fine x peers apart;
      }
