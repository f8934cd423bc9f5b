-- Lists of commands that are put into a map.
use Rattle.std.proofs.Common.{◌≡◌, ◌⊎◌, Contains, List, [], ◌∷◌, ◌++◌, get_or, inl, inr, refl}
use Rattle.std.proofs.lemmas.List.Elements.{All-contains, All-head, All-tail, Contains-append_cases, Contains-append_right, Contains-get_or}
use Rattle.std.specs.Prelude.{All}
use Rattle.pf_commands.specs.Merge.{CommandMap, IsCommand, IsCommandMap, merge, put_all, singleton}
use Rattle.pf_commands.specs.declared.payload.Command.{Command}
use Rattle.pf_commands.proofs.Ranges.{AreCommands-merge, AreCommands-one}
use Rattle.pf_scripts.proofs.Members.{SameMembers}

pub put_all-append : (m : CommandMap) (cs ds : List Command) → put_all (put_all m cs) ds ≡ put_all m (cs ++ ds)
put_all-append m [] ds = refl
put_all-append m (c ∷ cs) ds = put_all-append (merge m (singleton c.name c.payload)) cs ds

-- a map in range stays in range
pub ranges_kept : (m : CommandMap) (cs : List Command) → IsCommandMap m → All IsCommand cs → IsCommandMap (put_all m cs)
ranges_kept m [] are each = are
ranges_kept m (c ∷ cs) are each =
    let first = All-head IsCommand c cs each in
    ranges_kept (merge m (singleton c.name c.payload)) cs
    (AreCommands-merge m (singleton c.name c.payload) are (AreCommands-one c.name c.payload first.name first.payload))
    (All-tail IsCommand c cs each)

module _ {X : Type 0} (P : X → Type 0) where
  pub all_append : (xs ys : List X) → All P xs → All P ys → All P (xs ++ ys)
  all_append xs ys ps qs k d low = all_of (Contains-append_cases xs ys (get_or (xs ++ ys) k d) (Contains-get_or (xs ++ ys) k d low))
    where
      all_of : Contains xs (get_or (xs ++ ys) k d) ⊎ Contains ys (get_or (xs ++ ys) k d) → P (get_or (xs ++ ys) k d)
      all_of (inl has) = All-contains P xs _ ps has
      all_of (inr has) = All-contains P ys _ qs has

  pub all_members : (xs ys : List X) → SameMembers xs ys → All P xs → All P ys
  all_members xs ys same ps k d low = All-contains P xs _ ps ((same (get_or ys k d)).1 (Contains-get_or ys k d low))

module _ {X : Type 0} (P : X → Type 0) where
  pub all_right : (xs ys : List X) → All P (xs ++ ys) → All P ys
  all_right xs ys ps k d low =
      All-contains P (xs ++ ys) _ ps (Contains-append_right xs ys (get_or ys k d) (Contains-get_or ys k d low))
