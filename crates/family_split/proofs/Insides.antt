-- The lists that say how many numbers of each part lie inside, from the first to the last.
use Rattle.std.proofs.Common.{◌≡◌, ℕ, zero, suc, ◌-◌, ◌<◌, ◌≤◌, Bool, true, false, not, ◌==◌, cond, List, [], ◌∷◌, ◌++◌, length, map, filter, set, get_or, refl, sym, ap, ◌∙◌, subst, arith}
use Rattle.std.proofs.lemmas.Bool.{eq-eqb, ne_eqb, and_left, and_right, and_from}
use Rattle.std.specs.List.{flat_map, AllByRecursion}
use Rattle.probe_family.specs.declared.part.Part.{Part}
use Rattle.probe_family.proofs.Ranges.{append_All, weaken_All}
use Rattle.family_split.proofs.Zips.{zip_long}
use Rattle.family_split.specs.Children.{down_from, insides, are_all_inside}
use Rattle.family_split.specs.Later.{takes_of, AreInside, lesser, later}

down_from_is : (n : ℕ) → down_from n ≡ n ∷ lesser n
down_from_is zero = refl
down_from_is (suc n) = refl

-- the lists whose first number is the first of these
with_first : List Part → List ℕ → List (List ℕ)
with_first parts numbers = flat_map (λ i. map (λ is. i ∷ is) (insides parts)) numbers

-- the list of all takes comes first
pub insides_are : (parts : List Part) → insides parts ≡ takes_of parts ∷ later parts (takes_of parts)
unfolding with_first
insides_are [] = refl
insides_are (part ∷ parts) =
    ap (with_first parts) (down_from_is part.take)
    ∙ ap (λ l. map (λ is. part.take ∷ is) l ++ with_first parts (lesser part.take)) (insides_are parts)

-- where nothing lies inside no list is later
pub none_later : (parts : List Part) (js : List ℕ) → length js ≡ length parts → ((k : ℕ) → k < length js → get_or js k 0 ≡ 0) → later parts js ≡ []
unfolding with_first
none_later [] js long zeros = refl
none_later (part ∷ parts) [] long zeros = refl
none_later (part ∷ parts) (j ∷ js) long zeros =
    ap (λ l. map (λ is. j ∷ is) l ++ with_first parts (lesser j)) (none_later parts js (omega arith) (λ k lt. zeros (suc k) (omega arith)))
    ∙ ap (λ i. with_first parts (lesser i)) (zeros zero (omega arith))

-- the number at a place is less by one, and all that follow are takes again
abbrev pub stepped : List Part → List ℕ → ℕ → List ℕ
stepped (part ∷ parts) (j ∷ js) zero = (j - 1) ∷ takes_of parts
stepped (part ∷ parts) (j ∷ js) (suc i) = j ∷ stepped parts js i
stepped parts js i = []

-- the numbers from a place on are takes again
abbrev pub restored : List Part → List ℕ → ℕ → List ℕ
restored (part ∷ parts) (j ∷ js) zero = takes_of (part ∷ parts)
restored (part ∷ parts) (j ∷ js) (suc i) = j ∷ restored parts js i
restored parts js i = []

less_is : (n : ℕ) → 0 < n → lesser n ≡ (n - 1) ∷ lesser (n - 1)
less_is zero some = absurd (omega arith)
less_is (suc n) some = let e : n ≡ suc n - 1 = omega arith in down_from_is n ∙ ap (λ m. m ∷ lesser m) e

-- the next list
pub later_is : (parts : List Part) (js : List ℕ) (i : ℕ) → length js ≡ length parts → i < length js → 0 < get_or js i 0 → ((k : ℕ) → i < k → k < length js → get_or js k 0 ≡ 0) → later parts js ≡ stepped parts js i ∷ later parts (stepped parts js i)
unfolding with_first
later_is [] js i long lt some zeros = absurd (omega arith)
later_is (part ∷ parts) [] i long lt some zeros = absurd (omega arith)
later_is (part ∷ parts) (j ∷ js) zero long lt some zeros =
    ap (λ l. map (λ is. j ∷ is) l ++ with_first parts (lesser j)) (none_later parts js (omega arith) (λ k l. zeros (suc k) (omega arith) (omega arith)))
    ∙ (ap (with_first parts) (less_is j some)
    ∙ ap (λ l. map (λ is. (j - 1) ∷ is) l ++ with_first parts (lesser (j - 1))) (insides_are parts))
later_is (part ∷ parts) (j ∷ js) (suc i) long lt some zeros =
    ap (λ l. map (λ is. j ∷ is) l ++ with_first parts (lesser j)) (later_is parts js i (omega arith) (omega arith) some (λ k l m. zeros (suc k) (omega arith) (omega arith)))

pub takes_inside : (parts : List Part) → AreInside parts (takes_of parts)
takes_inside [] = tt
takes_inside (part ∷ parts) = (omega arith, takes_inside parts)

pub stepped_inside : (parts : List Part) (js : List ℕ) (i : ℕ) → i < length js → AreInside parts js → AreInside parts (stepped parts js i)
stepped_inside [] [] i lt inside = tt
stepped_inside [] (j ∷ js) i lt inside = absurd inside
stepped_inside (part ∷ parts) [] i lt inside = absurd inside
stepped_inside (part ∷ parts) (j ∷ js) zero lt inside = (omega (arith, inside.0), takes_inside parts)
stepped_inside (part ∷ parts) (j ∷ js) (suc i) lt inside = (inside.0, stepped_inside parts js i (omega arith) inside.1)

pub restored_all : (parts : List Part) (js : List ℕ) → length js ≡ length parts → restored parts js (length js) ≡ js
restored_all [] [] long = refl
restored_all [] (j ∷ js) long = absurd (omega arith)
restored_all (part ∷ parts) [] long = absurd (omega arith)
restored_all (part ∷ parts) (j ∷ js) long = ap (λ l. j ∷ l) (restored_all parts js (omega arith))

pub restored_at : (parts : List Part) (js : List ℕ) (i : ℕ) → length js ≡ length parts → i < length js → get_or (restored parts js (suc i)) i 0 ≡ get_or js i 0
restored_at [] js i long lt = absurd (omega arith)
restored_at (part ∷ parts) [] i long lt = absurd (omega arith)
restored_at (part ∷ parts) (j ∷ js) zero long lt = refl
restored_at (part ∷ parts) (j ∷ js) (suc i) long lt = restored_at parts js i (omega arith) (omega arith)

zero_restored : (parts : List Part) (js : List ℕ) → length js ≡ length parts → restored parts js 0 ≡ takes_of parts
zero_restored [] [] long = refl
zero_restored [] (j ∷ js) long = absurd (omega arith)
zero_restored (part ∷ parts) [] long = absurd (omega arith)
zero_restored (part ∷ parts) (j ∷ js) long = refl

pub restored_more : (parts : List Part) (js : List ℕ) (i : ℕ) (d : Part) → length js ≡ length parts → i < length js → set (restored parts js (suc i)) i (get_or parts i d).take ≡ restored parts js i
restored_more [] js i d long lt = absurd (omega arith)
restored_more (part ∷ parts) [] i d long lt = absurd (omega arith)
restored_more (part ∷ parts) (j ∷ js) zero d long lt = ap (λ l. part.take ∷ l) (zero_restored parts js (omega arith))
restored_more (part ∷ parts) (j ∷ js) (suc i) d long lt = ap (λ l. j ∷ l) (restored_more parts js i d (omega arith) (omega arith))

pub restored_stepped : (parts : List Part) (js : List ℕ) (i : ℕ) → length js ≡ length parts → i < length js → set (restored parts js (suc i)) i (get_or js i 0 - 1) ≡ stepped parts js i
restored_stepped [] js i long lt = absurd (omega arith)
restored_stepped (part ∷ parts) [] i long lt = absurd (omega arith)
restored_stepped (part ∷ parts) (j ∷ js) zero long lt = ap (λ l. (j - 1) ∷ l) (zero_restored parts js (omega arith))
restored_stepped (part ∷ parts) (j ∷ js) (suc i) long lt = ap (λ l. j ∷ l) (restored_stepped parts js i (omega arith) (omega arith))

-- each list says a number for each part
map_inside : (part : Part) (parts : List Part) (j : ℕ) → j ≤ part.take → (ls : List (List ℕ)) → AllByRecursion (AreInside parts) ls → AllByRecursion (AreInside (part ∷ parts)) (map (λ is. j ∷ is) ls)
map_inside part parts j le [] all = tt
map_inside part parts j le (l ∷ ls) all = ((le, all.0), map_inside part parts j le ls all.1)

first_inside : (part : Part) (parts : List Part) (n : ℕ) → n ≤ part.take → AllByRecursion (AreInside parts) (insides parts) → AllByRecursion (AreInside (part ∷ parts)) (flat_map (λ i. map (λ is. i ∷ is) (insides parts)) (down_from n))
first_inside part parts zero le rest = append_All (AreInside (part ∷ parts)) (map (λ is. 0 ∷ is) (insides parts)) [] (map_inside part parts 0 le (insides parts) rest) tt
first_inside part parts (suc n) le rest = append_All (AreInside (part ∷ parts)) (map (λ is. suc n ∷ is) (insides parts)) _ (map_inside part parts (suc n) le (insides parts) rest) (first_inside part parts n (omega arith) rest)

pub each_inside : (parts : List Part) → AllByRecursion (AreInside parts) (insides parts)
each_inside [] = (tt, tt)
each_inside (part ∷ parts) = first_inside part parts part.take (omega arith) (each_inside parts)

-- ---- the lists but that of all takes

all_takes_inside : (parts : List Part) → are_all_inside parts (takes_of parts) ≡ true
all_takes_inside [] = refl
all_takes_inside (part ∷ parts) = and_from (part.take == part.take) (are_all_inside parts (takes_of parts)) (eq-eqb part.take part.take refl) (all_takes_inside parts)

down_from_below : (m n : ℕ) → n < m → AllByRecursion (λ i. i < m) (down_from n)
down_from_below m zero lt = (lt, tt)
down_from_below m (suc n) lt = (lt, down_from_below m n (omega arith))

lesser_below : (n : ℕ) → AllByRecursion (λ i. i < n) (lesser n)
lesser_below zero = tt
lesser_below (suc n) = down_from_below (suc n) n (omega arith)

-- some number is less than the take
abbrev LacksSome : List Part → List ℕ → Type 0
LacksSome parts js = are_all_inside parts js ≡ false

first_lacks : (part : Part) (parts : List Part) (i : ℕ) → i < part.take → (ls : List (List ℕ)) → AllByRecursion (LacksSome (part ∷ parts)) (map (λ is. i ∷ is) ls)
first_lacks part parts i lt [] = tt
first_lacks part parts i lt (l ∷ ls) =
    (and_left (i == part.take) (are_all_inside parts l) (ne_eqb i part.take (λ e. omega arith)), first_lacks part parts i lt ls)

firsts_lack : (part : Part) (parts : List Part) (is : List ℕ) → AllByRecursion (λ i. i < part.take) is → AllByRecursion (LacksSome (part ∷ parts)) (with_first parts is)
unfolding with_first
firsts_lack part parts [] below = tt
firsts_lack part parts (i ∷ is) below = append_All (LacksSome (part ∷ parts)) (map (λ l. i ∷ l) (insides parts)) _ (first_lacks part parts i below.0 (insides parts)) (firsts_lack part parts is below.1)

rest_lacks : (part : Part) (parts : List Part) (ls : List (List ℕ)) → AllByRecursion (LacksSome parts) ls → AllByRecursion (LacksSome (part ∷ parts)) (map (λ is. part.take ∷ is) ls)
rest_lacks part parts [] all = tt
rest_lacks part parts (l ∷ ls) all = (and_right (part.take == part.take) (are_all_inside parts l) all.0, rest_lacks part parts ls all.1)

later_lack : (parts : List Part) → AllByRecursion (LacksSome parts) (later parts (takes_of parts))
unfolding with_first
later_lack [] = tt
later_lack (part ∷ parts) =
    append_All (LacksSome (part ∷ parts)) (map (λ is. part.take ∷ is) (later parts (takes_of parts))) _
    (rest_lacks part parts (later parts (takes_of parts)) (later_lack parts)) (firsts_lack part parts (lesser part.take) (lesser_below part.take))

keeps_all : {X : Type 0} (p : X → Bool) (xs : List X) → AllByRecursion (λ x. p x ≡ true) xs → filter p xs ≡ xs
keeps_all p [] all = refl
keeps_all p (x ∷ xs) all = ap (λ b. cond b (x ∷ filter p xs) (filter p xs)) all.0 ∙ ap (λ l. x ∷ l) (keeps_all p xs all.1)

-- the lists but that of all takes are those that come after it
pub others_are_later : (parts : List Part) → filter (λ js. not (are_all_inside parts js)) (insides parts) ≡ later parts (takes_of parts)
others_are_later parts =
    ap (filter (λ js. not (are_all_inside parts js))) (insides_are parts)
    ∙ (ap (λ b. cond (not b) (takes_of parts ∷ filter (λ js. not (are_all_inside parts js)) (later parts (takes_of parts))) (filter (λ js. not (are_all_inside parts js)) (later parts (takes_of parts)))) (all_takes_inside parts)
    ∙ keeps_all (λ js. not (are_all_inside parts js)) (later parts (takes_of parts)) (weaken_All (LacksSome parts) (λ js. not (are_all_inside parts js) ≡ true) (λ js lacks. ap not lacks) (later parts (takes_of parts)) (later_lack parts)))

tail_All : {X : Type 0} (P : X → Type 0) (x : X) (xs ys : List X) → ys ≡ x ∷ xs → AllByRecursion P ys → AllByRecursion P xs
tail_All P x xs ys is all = let both : AllByRecursion P (x ∷ xs) = subst (AllByRecursion P) is all in both.1

-- each of them says a number for each part
pub later_inside : (parts : List Part) → AllByRecursion (AreInside parts) (later parts (takes_of parts))
later_inside parts = tail_All (AreInside parts) (takes_of parts) (later parts (takes_of parts)) (insides parts) (insides_are parts) (each_inside parts)

-- ---- the step, as the code makes it

-- there are as many numbers as parts
pub inside_long : (parts : List Part) (js : List ℕ) → AreInside parts js → length js ≡ length parts
inside_long parts js inside = zip_long (λ (part : Part) (j : ℕ). j ≤ part.take) parts js inside

module _ (parts : List Part) (js current : List ℕ) (i k : ℕ) (inside : AreInside parts js) (so_far : current ≡ restored parts js i) (next : i ≡ suc k) (lt : k < length parts) where
  long : length js ≡ length parts
  long = inside_long parts js inside

  within : k < length js
  within = omega (arith, long)

  current_is : current ≡ restored parts js (suc k)
  current_is = so_far ∙ ap (restored parts js) next

  pub current_at : get_or current k 0 ≡ get_or js k 0
  current_at = ap (λ l. get_or l k 0) current_is ∙ restored_at parts js k long within

  step_set : set current k (get_or current k 0 - 1) ≡ stepped parts js k
  step_set = ap (λ l. set l k (get_or current k 0 - 1)) current_is ∙ (ap (λ j. set (restored parts js (suc k)) k (j - 1)) current_at ∙ restored_stepped parts js k long within)

  pub step_inside : AreInside parts (set current k (get_or current k 0 - 1))
  step_inside = subst (AreInside parts) (sym step_set) (stepped_inside parts js k within inside)

  pub step_next : 0 < get_or current k 0 → ((m : ℕ) → i ≤ m → m < length js → get_or js m 0 ≡ 0) → later parts js ≡ set current k (get_or current k 0 - 1) ∷ later parts (set current k (get_or current k 0 - 1))
  step_next some zeros =
      later_is parts js k long within (omega (arith, current_at)) (λ m after m_lt. zeros m (omega arith) m_lt)
      ∙ ap (λ l. l ∷ later parts l) (sym step_set)

  pub step_restored : (d : Part) → set current k (get_or parts k d).take ≡ restored parts js k
  step_restored d = ap (λ l. set l k (get_or parts k d).take) current_is ∙ restored_more parts js k d long within

pub restored_first : (parts : List Part) (js : List ℕ) → AreInside parts js → restored parts js (length parts) ≡ js
restored_first parts js inside =
    let long : length js ≡ length parts = inside_long parts js inside in
    ap (restored parts js) (sym long) ∙ restored_all parts js long

pub restored_last : (parts : List Part) (js : List ℕ) → AreInside parts js → AreInside parts (restored parts js 0)
restored_last parts js inside =
    subst (AreInside parts) (sym (zero_restored parts js (inside_long parts js inside))) (takes_inside parts)
