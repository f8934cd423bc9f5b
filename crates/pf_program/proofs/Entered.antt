-- The subcommand that words enter, by the matches of a parse.
use Rattle.std.proofs.Common.{rules, refl, ap, codes, ◌≡◌, ◌∙◌, List, Option, Some, None, [], Ok, true}
use Rattle.std.specs.Prelude.{option_map, unwrap_or}
use Rattle.std.specs.Str.{bytes_eq}
use Rattle.std.proofs.lemmas.Slice.Eq.{bytes_eq-Decides}
use Rattle.clap.specs.Words.{Kinds, Row, Text, first_of, subcommand_name_of, subcommand_rows_of}
use Rattle.clap.specs.declared.parser.matches.ArgMatches.{ArgMatches}
use Rattle.clap.specs.declared.parser.matches.ArgMatches.TheViews.{out-ArgMatches}
use Rattle.pf_program.specs.Options.{ParsesAs, AsksFor, digits_in, crew_size_of, crew_size_in, is_session}
use Rattle.pf_console.specs.declared.request.Request.{Request}
use Rattle.pf_console.specs.declared.request.Request.TheVariants.{Run, Session, Frame, Help, Version}

digits_of : (entered : Option (Text × List Row)) (rows : List Row) (value : Option Text) → option_map (λ p. p.0) entered ≡ Some (codes "frame")
    → option_map (λ p. p.1) entered ≡ Some rows → first_of (codes "HEX") rows ≡ value → digits_in entered ≡ Some (unwrap_or value [])
digits_of None rows value name_is rows_are value_is = search rules
digits_of (Some entered) rows value name_is rows_are value_is =
    let name : entered.0 ≡ codes "frame" = ap (λ (o : Option Text). unwrap_or o []) name_is in
    let same : entered.1 ≡ rows = ap (λ (o : Option (List Row)). unwrap_or o rows) rows_are in
    rw (name, same, value_is) refl

map_map : {X Y Z : Type 0} (f : Y → Z) (g : X → Y) (o : Option X) → option_map f (option_map g o) ≡ option_map (λ x. f (g x)) o
map_map f g None = refl
map_map f g (Some x) = refl

named : (m : ArgMatches) → option_map (λ p. p.0) (subcommand_rows_of m) ≡ subcommand_name_of m
named m = map_map (λ (p : Text × List Row). p.0) _ (out-ArgMatches m).subcommand

pub digits_found : (m : ArgMatches) (rows : List Row) (value : Option Text) → subcommand_name_of m ≡ Some (codes "frame")
    → option_map (λ p. p.1) (subcommand_rows_of m) ≡ Some rows → first_of (codes "HEX") rows ≡ value → digits_in (subcommand_rows_of m) ≡ Some (unwrap_or value [])
digits_found m rows value name_is rows_are value_is = digits_of (subcommand_rows_of m) rows value (named m ∙ name_is) rows_are value_is

same_bytes : (name : Text) → bytes_eq name name ≡ true
same_bytes name = (bytes_eq-Decides name name).1 refl

crew_of : (entered : Option (Text × List Row)) (name : Text) (rows : List Row) (value : Option Text) → option_map (λ p. p.0) entered ≡ Some name
    → option_map (λ p. p.1) entered ≡ Some rows → first_of (codes "crew") rows ≡ value → crew_size_in name entered ≡ crew_size_of value
crew_of None name rows value name_is rows_are value_is = search rules
crew_of (Some entered) name rows value name_is rows_are value_is =
    let named : entered.0 ≡ name = ap (λ (o : Option Text). unwrap_or o []) name_is in
    let same : entered.1 ≡ rows = ap (λ (o : Option (List Row)). unwrap_or o rows) rows_are in
    rw (named, same, value_is, same_bytes name) refl

pub crew_found : (m : ArgMatches) (name : Text) (rows : List Row) (value : Option Text) → subcommand_name_of m ≡ Some name
    → option_map (λ p. p.1) (subcommand_rows_of m) ≡ Some rows → first_of (codes "crew") rows ≡ value → crew_size_in name (subcommand_rows_of m) ≡ crew_size_of value
crew_found m name rows value name_is rows_are value_is = crew_of (subcommand_rows_of m) name rows value (named m ∙ name_is) rows_are value_is

session_of : (entered : Option (Text × List Row)) → option_map (λ p. p.0) entered ≡ Some (codes "session") → is_session entered ≡ true
session_of None name_is = search rules
session_of (Some entered) name_is =
    let name : entered.0 ≡ codes "session" = ap (λ (o : Option Text). unwrap_or o []) name_is in
    rw name refl

pub session_found : (m : ArgMatches) → subcommand_name_of m ≡ Some (codes "session") → is_session (subcommand_rows_of m) ≡ true
session_found m name_is = session_of (subcommand_rows_of m) (named m ∙ name_is)

pub unwrap_map : {X Y : Type 0} (f : X → Y) (o : Option X) (d : X) → unwrap_or (option_map f o) (f d) ≡ f (unwrap_or o d)
unwrap_map f None d = refl
unwrap_map f (Some x) d = refl

-- valid words are parsed as what they ask for
pub request_parses : (errors : Kinds) (entered : Option (Text × List Row)) (r : Request) → errors ≡ [] → AsksFor entered r
    → ParsesAs errors entered (Ok r)
request_parses errors entered (Run workers) fit asked = (fit, asked)
request_parses errors entered (Session workers) fit asked = (fit, asked)
request_parses errors entered (Frame digits) fit asked = (fit, asked)
request_parses errors entered (Help text) fit asked = elim asked [ ]
request_parses errors entered Version fit asked = elim asked [ ]
