-- How what is noted is spelled, piece by piece. Assumes nothing.
use Rattle.std.proofs.Common.{◌≡◌, ℕ, zero, suc, ◌+◌, ◌*◌, ◌<◌, ◌≤◌, min, eqb, List, [], ◌∷◌, ◌++◌, length, get_or, take, drop, sym, ap, ap₂, ◌∙◌, arith, append_assoc, append-nil, length-drop}
use Rattle.std.proofs.lemmas.List.{get_or-take, length-take-le, take-append-le, take-take, take_all, take_min, drop-drop}
use Rattle.pages.specs.Bytes.{eight, with_length}
use Rattle.pages.specs.Lists.{each, pick}
use Rattle.pages.specs.Words.{bytes_of}
use Rattle.pages.proofs.ListLaws.{length_each}
use Rattle.pages.proofs.WordLaws.{length_bytes_of}
use Rattle.objects.specs.Layouts.{words_for}
use Rattle.objects.specs.Marking.{key_words}
use Rattle.objects.specs.Plan.{counts_at, counts_of}
use Rattle.trees.specs.Row.{as_entry, entries_of, held, path_of, tens}
use Rattle.trees.proofs.EntryLaws.{entries_are}
use Rattle.house.specs.declared.control.Control.{Control}
use Rattle.house.specs.Control.{bytes_at, desk_end, files_spelled, head_word, parents_spelled, row_of, spelled_in, words_said}

-- the front of a row into which so many bytes were put
cut_out : (n : ℕ) (bs zs out : List ℕ) → n ≤ length bs → out ≡ take n bs ++ zs → take n out ≡ take n bs
cut_out n bs zs out le e =
    ap (take n) e ∙ take-append-le n (take n bs) zs (omega (arith, length-take-le n bs le)) ∙ take-take n n bs (omega arith)

-- an entry's path
pub path_cut : (e zs out : List ℕ) (many : ℕ) → length e ≡ 10 → many ≡ min (get_or e 8 0) 64 → out ≡ take many (bytes_of (take 8 e)) ++ zs →
    take many out ≡ path_of (take 9 e)
unfolding path_of
path_cut e zs out many l m o =
    cut_out many (bytes_of (take 8 e)) zs out fits o
    ∙ ap (λ n. take n (bytes_of (take 8 e))) (m ∙ ap (min (get_or e 8 0)) (sym b)) ∙ take_min (get_or e 8 0) (bytes_of (take 8 e))
    ∙ ap₂ (λ n k. take n (bytes_of k)) (sym (get_or-take 9 e 8 0 (omega arith))) (sym (take-take 8 9 e (omega arith)))
  where
    b : length (bytes_of (take 8 e)) ≡ 64
    b = length_bytes_of (take 8 e) ∙ ap (λ n. 8 * n) (length-take-le 8 e (omega arith))

    fits : many ≤ length (bytes_of (take 8 e))
    fits = omega (arith, b)

-- a sum's bytes
pub sum_bytes : (ws zs out : List ℕ) → length ws ≡ 4 → length zs ≡ 0 → out ≡ take 32 (bytes_of ws) ++ zs → out ≡ bytes_of ws
sum_bytes ws [] out l z e = e ∙ append-nil (take 32 (bytes_of ws)) ∙ take_all 32 (bytes_of ws) (omega (arith, length_bytes_of ws))
sum_bytes ws (x ∷ zs) out l z e = absurd (omega arith)

-- one file more
pub spelled_none : (x ws : List ℕ) → x ≡ x ++ files_spelled [] ws
unfolding files_spelled
spelled_none x ws = sym (append-nil x)

pub spelled_more : (es : List (List ℕ)) (i : ℕ) (ws : List ℕ) → i < length es →
    files_spelled (each as_entry (take (suc i) es)) ws
    ≡ files_spelled (each as_entry (take i es)) ws ++ (with_length (path_of (take 9 (get_or es i []))) ++ with_length (bytes_of (take 4 (drop (4 * i) ws))))
unfolding files_spelled
spelled_more [] i ws h = absurd (omega arith)
spelled_more (e ∷ es) zero ws h = ap (λ y. with_length (path_of (take 9 e)) ++ y) (append-nil (with_length (bytes_of (take 4 ws))))
spelled_more (e ∷ es) (suc i) ws h =
    let n : 4 + 4 * i ≡ 4 * suc i = omega arith in
    let more = spelled_more es i (drop 4 ws) (omega arith) in
    ap (λ y. p ++ (s ++ y))
    (more ∙ ap (λ z. files_spelled (each as_entry (take i es)) (drop 4 ws) ++ (with_length (path_of (take 9 (get_or es i []))) ++ with_length (bytes_of (take 4 z)))) (drop-drop (4 * i) 4 ws ∙ ap (λ k. drop k ws) n))
    ∙ ap (λ y. p ++ y) (sym (append_assoc s (files_spelled (each as_entry (take i es)) (drop 4 ws)) _))
    ∙ sym (append_assoc p (s ++ files_spelled (each as_entry (take i es)) (drop 4 ws)) _)
  where
    p : List ℕ
    p = with_length (path_of (take 9 e))

    s : List ℕ
    s = with_length (bytes_of (take 4 ws))

pub more_fed : (x : List ℕ) (es : List (List ℕ)) (i four : ℕ) (ws : List ℕ) → four ≡ 4 → i < length es →
    ((x ++ files_spelled (each as_entry (take i es)) ws) ++ with_length (path_of (take 9 (get_or es i [])))) ++ with_length (bytes_of (take four (drop (4 * i) ws)))
    ≡ x ++ files_spelled (each as_entry (take (i + 1) es)) ws
more_fed x es i four ws e h =
    ap (λ k. ((x ++ files_spelled (each as_entry (take i es)) ws) ++ with_length (path_of (take 9 (get_or es i [])))) ++ with_length (bytes_of (take k (drop (4 * i) ws)))) e
    ∙ append_assoc (x ++ files_spelled (each as_entry (take i es)) ws) (with_length (path_of (take 9 (get_or es i [])))) (with_length (bytes_of (take 4 (drop (4 * i) ws))))
    ∙ append_assoc x (files_spelled (each as_entry (take i es)) ws) _
    ∙ ap (λ y. x ++ y) (sym (spelled_more es i ws h) ∙ ap (λ n. files_spelled (each as_entry (take n es)) ws) n)
  where
    n : suc i ≡ i + 1
    n = omega arith

pub files_fed : (x row ws : List ℕ) (es : List (List ℕ)) → es ≡ tens (held row) (drop 2 row) →
    (x ++ eight (length es)) ++ files_spelled (each as_entry es) ws ≡ x ++ (eight (length (entries_of row)) ++ files_spelled (entries_of row) ws)
files_fed x row ws es e =
    append_assoc x (eight (length es)) (files_spelled (each as_entry es) ws)
    ∙ ap (λ y. x ++ y) (ap₂ (λ n t. eight n ++ files_spelled t ws) (sym (length_each as_entry es) ∙ ap length (entries_are row es e)) (entries_are row es e))

-- all of it
pub all_spelled : (k : Control) (m : List ℕ) (tip many n : ℕ) → tip ≡ head_word m 3 → many ≡ min k.bytes 65535 → n ≡ words_for many →
    ((([] ++ pick (eqb tip 0) (eight 0) (eight 1 ++ with_length (bytes_of (key_words k.version.parent))))
    ++ (eight (length (entries_of (row_of m))) ++ files_spelled (entries_of (row_of m)) (counts_of m))) ++ eight k.version.stamp)
    ++ with_length (take many (bytes_of (take n (drop bytes_at m))))
    ≡ spelled_in k m
unfolding spelled_in
all_spelled k m tip many n t b w =
    ap₂ (λ x i. ((pick (eqb x 0) (eight 0) (eight 1 ++ with_length (bytes_of (key_words k.version.parent))) ++ (files_many ++ files)) ++ stamp) ++ with_length (take many (bytes_of (take i (drop bytes_at m))))) t w
    ∙ ap (λ i. ((parents_spelled k m ++ (files_many ++ files)) ++ stamp) ++ with_length (words_said i m)) b
    ∙ append_assoc (parents_spelled k m ++ (files_many ++ files)) stamp said ∙ append_assoc (parents_spelled k m) (files_many ++ files) (stamp ++ said)
    ∙ ap (λ y. parents_spelled k m ++ y) (append_assoc files_many files (stamp ++ said))
  where
    files_many : List ℕ
    files_many = eight (length (entries_of (row_of m)))

    files : List ℕ
    files = files_spelled (entries_of (row_of m)) (counts_of m)

    stamp : List ℕ
    stamp = eight k.version.stamp

    said : List ℕ
    said = with_length (words_said (min k.bytes 65535) m)

-- where its parts stand
pub sums_long : (m : List ℕ) → desk_end ≤ length m → 16384 ≤ length (take 16384 (drop counts_at m))
sums_long m h = omega (arith, length-take-le 16384 (drop counts_at m) (omega (arith, length-drop counts_at m)))

pub words_end : (m : List ℕ) (bytes many n : ℕ) → desk_end ≤ length m → many ≡ min bytes 65535 → n ≡ words_for many → bytes_at + n ≤ length m
words_end m bytes many n h b w = omega arith
