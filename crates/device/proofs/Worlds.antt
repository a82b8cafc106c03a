-- Each command is the step that it says, of every world for which the chip stands.
use Rattle.std.proofs.Common.{◌≡◌, ℕ, suc, ◌+◌, ◌^◌, Bool, true, false, cond, eqb, ltb, List, ◌∷◌, map, reverse, Some, None, Option, Ok, Err, sym, refl, ap, ◌∙◌, subst, true≢false, add-one, arith}
use mathlib.Core.List.{Memᴰ}
use Rattle.std.proofs.lemmas.Bool.Decides.{nat_tests}
use Rattle.model.specs.Term as term
use Rattle.model.specs.Term.{Term, Derives}
use Rattle.model.specs.World as world
use Rattle.model.specs.World.{Programs, World}
use Rattle.model.specs.Effect as effect
use Rattle.model.specs.Step as step
use Rattle.model.proofs.Places.{at_same}
use Rattle.device.specs.declared.chips.Chip.{Chip}
use Rattle.device.specs.declared.chips.Command.{Command}
use Rattle.device.specs.declared.chips.Command.TheVariants.{Put, Sign, Count, Close, Open, Read, SwitchedOn}
use Rattle.device.specs.declared.chips.Answer.{Answer}
use Rattle.device.specs.declared.chips.Answer.TheVariants.{Signed}
use Rattle.device.specs.declared.chips.Target.{Target}
use Rattle.device.specs.declared.chips.Target.TheVariants.{Row, Nowhere}
use Rattle.device.specs.declared.chips.Thing.{Thing}
use Rattle.device.specs.declared.digests.Data.{Data}
use Rattle.device.specs.declared.digests.Digest.{Digest}
use Rattle.device.specs.declared.refusals.Refusal.{Refusal}
use Rattle.device.specs.declared.refusals.Refusal.TheVariants.{BadSeal, OtherRow, OtherCounter, UsedUp}
use Rattle.device.specs.declared.registers.Register.{Register}
use Rattle.device.specs.Rows.{row, words, pushed}
use Rattle.device.specs.Things.{is_row, sealed_by_of}
use Rattle.device.specs.Commands.{put_by, put_of, signature_of, counted, content, sealed, closed, opened, switched, as_done, as_counter, as_closed, as_opened, answered}
use Rattle.device.specs.Worlds.{Like, Stands, target_of, Holds, Switches, Puts, Signs, Counts, Closes, Opens, Reply, Steps}
use Rattle.device.proofs.Rows.{words_more, same_digests_decides, same_words}

-- a machine that was changed at one place: the chip stands for it there
pub stands : (c : Chip) (v : World) (a : ℕ) (m : world.Machine) → v.machines a ≡ m → c.id ≡ a → Like c m → Stands c v a
stands c v a m e i l = record { is = i; like = subst (λ n. Like c n) (sym e) l }

pub switches : (c : Chip) → Switches c (switched c)
switches c = record { switches = λ pr w a s. (step.switches w a, stands _ _ a _ (at_same a _ w.machines) s.is (record { register_is = refl; counter_is = s.like.counter_is; number_is = s.like.number_is })) }

-- the chip and the answer where nothing was refused
both : {p q : Chip × Answer} → ◌≡◌ {A = Reply} (Ok p) (Ok q) → p ≡ q
both h = cc

left : {p q : Chip × Answer} → ◌≡◌ {A = Reply} (Ok p) (Ok q) → p.0 ≡ q.0
left h = ap (λ p. p.0) (both h)

right : {p q : Chip × Answer} → ◌≡◌ {A = Reply} (Ok p) (Ok q) → p.1 ≡ q.1
right h = ap (λ p. p.1) (both h)

-- what stood for the chip stands for the one that was answered
on_to : {p q : Chip × Answer} {v : World} {a : ℕ} → ◌≡◌ {A = Reply} (Ok p) (Ok q) → Stands p.0 v a → Stands q.0 v a
on_to {v = v} {a = a} h = subst (λ m. Stands m v a) (left h)

puts_by : (c : Chip) (d : Digest) (o : Option Register) → pushed c.register d ≡ o → Puts c d (as_done (put_by c o))
puts_by c d (Some r) e =
    record {
      boots = λ pr w a n s h none is. (step.boots w a none, on_to h (stands _ _ a _ (at_same a _ w.machines) s.is (record { register_is = words_more _ _ d e ∙ (λ i. is i ∷ s.like.register_is i); counter_is = s.like.counter_is; number_is = s.like.number_is })));
      loads = λ pr w a n q qs s h some. (step.loads w a d.bytes q qs some, on_to h (stands _ _ a _ (at_same a _ w.machines) s.is (record { register_is = words_more _ _ d e ∙ ap (λ l. d.bytes ∷ l) s.like.register_is; counter_is = s.like.counter_is; number_is = s.like.number_is })));
      puts_only = λ pr w a n s h t. (step.puts_only w a d.bytes t, on_to h (stands _ _ a _ (at_same a _ w.machines) s.is (record { register_is = words_more _ _ d e ∙ ap (λ l. d.bytes ∷ l) s.like.register_is; counter_is = s.like.counter_is; number_is = s.like.number_is })));
    }
puts_by c d None e = record { boots = λ pr w a n s h. absurd (grind arith); loads = λ pr w a n q qs s h. absurd (grind arith); puts_only = λ pr w a n s h. absurd (grind arith) }

puts : (c : Chip) (d : Digest) → Puts c d (as_done (put_of c d))
puts c d = puts_by c d (pushed c.register d) refl

signs : (c : Chip) (d : Data) → Signs c d (Ok (c, Signed (signature_of c d)))
signs c d = record { signs = λ pr w a t s h. (step.signs w a t h, record { is = s.is; like = s.like }); answers = refl }

counts_at : (c : Chip) (b : Bool) → Counts c (as_counter (cond b (Ok (record { id = c.id; register = c.register; counter = c.counter + 1; number = c.number })) (Err UsedUp)))
counts_at c true =
    record { counts = λ pr w a n k s h. ((step.counts w a, on_to h (stands _ _ a _ (at_same a _ w.machines) s.is (record { register_is = s.like.register_is; counter_is = add-one _ ∙ ap suc s.like.counter_is; number_is = s.like.number_is }))), let answer = right h in let told : c.counter + 1 ≡ k = cc in sym told ∙ add-one _ ∙ ap suc s.like.counter_is) }
counts_at c false = record { counts = λ pr w a n k s h. absurd (grind arith) }

counts : (c : Chip) → Counts c (as_counter (counted c))
counts c = counts_at c (ltb c.counter (2 ^ 63))

closes_at : (c : Chip) (t : Target) (d : Data) (b : Bool) → Closes c t d (as_closed (cond b (Ok (record { id = c.id; register = c.register; counter = c.counter; number = c.number + 1 }, sealed c.id (content c t d))) (Err UsedUp)))
closes_at c t d true =
    record {
      closes = λ pr w a n x s h. (step.closes w a (target_of t), on_to h (stands _ _ a _ (at_same a _ w.machines) s.is (more (w.machines a) s.like)));
      closes_given = λ pr w a u n x s h f. (step.closes_given w a (target_of t) u f, on_to h (stands _ _ a _ (at_same a _ w.machines) s.is (more (w.machines a) s.like)));
      passes_over = λ pr w a n x s h. (step.passes_over w a, on_to h (stands _ _ a _ (at_same a _ w.machines) s.is (more (w.machines a) s.like)));
      gives = λ w a u secret n x s h. let answer = right h in let is : sealed c.id (content c t d) ≡ x = cc in (sym is, subst (λ y. Holds y.content (effect.thing (target_of t) u secret (w.machines a))) is (record { number_is = s.like.number_is; target_is = refl; counter_is = s.like.counter_is }));
    }
  where
    -- one number more, whatever was closed under it
    more : (m : world.Machine) {xs : List world.Thing} → Like c m → Like (record { id = c.id; register = c.register; counter = c.counter; number = c.number + 1 }) (effect.numbered_on xs m)
    more m l = record { register_is = l.register_is; counter_is = l.counter_is; number_is = add-one _ ∙ ap suc l.number_is }
closes_at c t d false = record { closes = λ pr w a n x s h. absurd (grind arith); closes_given = λ pr w a u n x s h. absurd (grind arith); passes_over = λ pr w a n x s h. absurd (grind arith); gives = λ w a u secret n x s h. absurd (grind arith) }

closes : (c : Chip) (t : Target) (d : Data) → Closes c t d (as_closed (closed c t d))
closes c t d = closes_at c t d (ltb c.number (2 ^ 63))

-- ---- opening

-- the target is the register's row exactly if it means that row in the world
row_fits : (t : Target) (r : Register) → is_row t r ≡ true → target_of t ≡ world.For (words r)
row_fits (Row s) r e = ap (λ ds. world.For (map (λ d. d.bytes) (reverse ds))) (sym ((same_digests_decides (row r) (row s)).0 e))
row_fits Nowhere r e = absurd (true≢false (sym e))

fits_row : (t : Target) (r : Register) → target_of t ≡ world.For (words r) → is_row t r ≡ true
fits_row (Row s) r e = (same_digests_decides (row r) (row s)).1 (sym (same_words s r cc))
fits_row Nowhere r e = absurd (grind arith)

-- nothing is opened, and one of the three does not fit
shut : (c : Chip) (x : Thing) (k : Refusal) → ((w : World) (a : ℕ) (y : world.Thing) → Stands c w a → Holds x.content y → sealed_by_of c.id x ≡ true → y.target ≡ world.For (w.machines a).register → y.counter ≡ (w.machines a).counter → ⊥) → Opens c x (Err k)
shut c x k unfit =
    record { opens = λ pr w a y n d s h. absurd (grind arith); opens_told = λ pr w a y n d s h. absurd (grind arith); tells = λ n d h. absurd (grind arith); opens_fitting = λ w a y s h e f g. absurd (unfit w a y s h e f g) }

opens_at : (c : Chip) (x : Thing) (b₁ b₂ b₃ : Bool) → sealed_by_of c.id x ≡ b₁ → is_row x.content.target c.register ≡ b₂ → eqb x.content.counter c.counter ≡ b₃ → Opens c x (as_opened c (cond b₁ (cond b₂ (cond b₃ (Ok x.content.«data») (Err OtherCounter)) (Err OtherRow)) (Err BadSeal)))
opens_at c x false b₂ b₃ e₁ e₂ e₃ = shut c x BadSeal (λ w a y s h e f g. true≢false (sym e ∙ e₁))
opens_at c x true false b₃ e₁ e₂ e₃ = shut c x OtherRow (λ w a y s h e f g. true≢false (sym (fits_row _ _ (h.target_is ∙ f ∙ ap world.For (sym s.like.register_is))) ∙ e₂))
opens_at c x true true false e₁ e₂ e₃ = shut c x OtherCounter (λ w a y s h e f g. let same : x.content.counter ≡ c.counter = h.counter_is ∙ g ∙ sym s.like.counter_is in absurd (grind (arith, nat_tests)))
opens_at c x true true true e₁ e₂ e₃ =
    record {
      opens = λ pr w a y n d s e h m at_hand clean. (step.opens w a y (fits w a y s h m at_hand) clean, on_to e (record { is = s.is; like = s.like }));
      opens_told = λ pr w a y n d s e h m at_hand tainted. (step.opens_told w a y (fits w a y s h m at_hand) tainted, on_to e (record { is = s.is; like = s.like }));
      tells = λ n d h. let answer = right h in let is : x.content.«data» ≡ d = cc in sym is;
      opens_fitting = λ w a y s h e f g. refl;
    }
  where
    fits : (w : World) (a : ℕ) (y : world.Thing) → Stands c w a → Holds x.content y → Memᴰ y (w.machines a).closed → Derives w.heard (term.Sealed a y.number) → step.Opens a y w
    fits w a y s h m at_hand =
        let same : x.content.counter ≡ c.counter = grind (arith, nat_tests) in
        record { given_out = m; at_hand = at_hand; target_fits = sym h.target_is ∙ row_fits _ _ e₂ ∙ ap world.For s.like.register_is; counter_fits = sym h.counter_is ∙ same ∙ s.like.counter_is }

opens : (c : Chip) (x : Thing) → Opens c x (as_opened c (opened c x))
opens c x = opens_at c x _ _ _ refl refl refl

-- ---- every command

stepped_at : (c : Chip) (k : Command) → Steps c k (answered c k)
stepped_at c (Put d) = puts c d
stepped_at c (Sign d) = signs c d
stepped_at c Count = counts c
stepped_at c (Close t d) = closes c t d
stepped_at c (Open x) = opens c x
stepped_at c Read = λ n x h. sym (left h)
stepped_at c SwitchedOn = λ n x h. absurd (grind arith)

pub stepped : (c : Chip) (k : Command) (r : Reply) → r ≡ answered c k → Steps c k r
stepped c k r e = subst (λ q. Steps c k q) (sym e) (stepped_at c k)
