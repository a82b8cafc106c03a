-- Searches and folds over programs and copies, by the library's.
use Rattle.std.proofs.Common.{◌≡◌, ℕ, ◌+◌, ◌<◌, ◌≤◌, Bool, true, false, cond, List, [], ◌∷◌, length, get_or, drop, Some, None, Option, sym, refl, ap, ◌∙◌}
use Rattle.std.proofs.lemmas.List.{at_drop_more, at_drop_all}
use Rattle.std.specs.List.{find}
use Rattle.std.specs.Option.{option_map}
use Rattle.device.specs.declared.registers.Register.{Register}
use Rattle.device.specs.Rows.{pushed}
use Rattle.boot.specs.declared.disks.StartList.{StartList}
use Rattle.script.specs.declared.labels.Label.{Label}
use Rattle.script.specs.Labels.{same_label}
use Rattle.script.proofs.Tries.{and_on, tried}
use Rattle.device.specs.declared.chips.Answer.{Answer}
use Rattle.scenes.specs.declared.stages.Kept.{Kept}
use Rattle.scenes.specs.Names.{digest_of}
use Rattle.scenes.specs.Steps.{go_on, row_from, added_name, names_from}
use Rattle.scenes.specs.Scenes.{latest}

each : {A B : Type 0} (o : Option A) (f g : A → Option B) → ((x : A) → f x ≡ g x) → and_on o f ≡ go_on o g
each None f g h = refl
each (Some x) f g h = h x

rows_here : (r : Register) (l : Label) (ls : List Label) → row_from r (l ∷ ls) ≡ go_on (pushed r (digest_of l)) (λ q. row_from q ls)
unfolding row_from
rows_here r l ls = refl

rows_nil : (r : Register) → row_from r [] ≡ Some r
unfolding row_from
rows_nil r = refl

-- the next program, and none left
pub rows_next : (r : Register) (ls : List Label) (i : ℕ) (l : Label) (o t : Option Register) → i < length ls → o ≡ pushed r (digest_of (get_or ls i l)) → row_from r (drop i ls) ≡ t → go_on o (λ q. row_from q (drop (i + 1) ls)) ≡ t
rows_next r ls i l o t h e inv = ap (λ q. go_on q (λ v. row_from v (drop (i + 1) ls))) e ∙ sym (rows_here r (get_or ls i l) (drop (i + 1) ls)) ∙ sym (at_drop_more (row_from r) ls i l h) ∙ inv

pub rows_all : (r : Register) (ls : List Label) (i : ℕ) (t : Option Register) → length ls ≤ i → row_from r (drop i ls) ≡ t → Some r ≡ t
rows_all r ls i t h inv = sym (rows_nil r) ∙ sym (at_drop_all (row_from r) ls i h) ∙ inv

pub lists : (s : StartList) (ls : List Label) → tried added_name s ls ≡ names_from s ls
unfolding names_from
lists s [] = refl
lists s (l ∷ ls) = each (added_name s l) _ _ (λ q. lists q ls)

-- ---- copies

pub latest_found : (n : Label) (ks : List Kept) → option_map (λ k. k.answer) (find (λ k. same_label k.name n) ks) ≡ latest n ks
unfolding latest
latest_found n [] = refl
latest_found n (k ∷ ks) = chosen (same_label k.name n) _ _ (latest_found n ks)
  where
    chosen : (b : Bool) (o : Option Kept) (p : Option Answer) → option_map (λ k. k.answer) o ≡ p → option_map (λ k. k.answer) (cond b (Some k) o) ≡ cond b (Some k.answer) p
    chosen true o p h = refl
    chosen false o p h = h
