-- The settings of a program, one to a line, and then `run`. Assumes nothing.
use Rattle.std.specs.Prelude.{◌≡◌, ℕ, ◌+◌, Bool, true, false, cond, ◌&&◌, List, [], ◌∷◌, ◌++◌, length, drop, Some, None, Ok, Err, vec_items, codes, Option, Result, Vec, ◌==◌, nat_le, nat_lt, slice_index}
use Rattle.std.specs.List.{slice_split}
use Rattle.std.specs.Str.{bytes_eq}
use Rattle.std.specs.declared.alloc.Global.{Global}
use Rattle.fault.specs.declared.Fault.{Fault}
use Rattle.fault.specs.declared.Fault.TheVariants.{Malformed, NoSuch, NoServer}
use Rattle.fault.specs.declared.Error.{Error}
use Rattle.fault.specs.declared.Error.TheVariants.{Of, Memory}
use Rattle.flow.specs.Buckets.{is_bucket_count}
use Rattle.words.specs.Words.{word_of, rest_of, numeral}
use Rattle.settings.specs.declared.kept.Setting.{Setting}
use Rattle.settings.specs.declared.kept.Setting.TheVariants.{Buckets, Server, Balancers, Balancer}
use Rattle.settings.specs.declared.kept.Settings.{Settings}

-- what is written so far. servers: those at the start, none where they are not written yet
pub record Written : Type 0 where
  pub buckets : Option ℕ
  pub servers : List ℕ
  pub server : Option ℕ
  pub balancers : Option ℕ
  pub balancer : Option ℕ

abbrev pub written : Settings → Written
written s = record { buckets = s.buckets; servers = vec_items s.servers; server = s.server; balancers = s.balancers; balancer = s.balancer }

-- at first
abbrev pub blank : Written
blank = record { buckets = None; servers = []; server = None; balancers = None; balancer = None }

-- A NUMBER

-- the names of the settings that are one number
abbrev pub named : List ℕ → Option Setting
named word =
    cond (bytes_eq word (codes "buckets")) (Some Buckets)
    (cond (bytes_eq word (codes "house")) (Some Server)
    (cond (bytes_eq word (codes "doors")) (Some Balancers)
    (cond (bytes_eq word (codes "door")) (Some Balancer) None)))

-- a number of buckets, a server and a balancer that can be
abbrev pub fits : Setting → ℕ → Bool
fits Buckets n = is_bucket_count n
fits Server n = nat_lt n 256
fits Balancers n = nat_lt n 65536
fits Balancer n = nat_lt n 65536

abbrev pub value_of : Setting → Written → Option ℕ
value_of Buckets w = w.buckets
value_of Server w = w.server
value_of Balancers w = w.balancers
value_of Balancer w = w.balancer

abbrev pub with : Setting → ℕ → Written → Written
with Buckets n w = record { buckets = Some n; servers = w.servers; server = w.server; balancers = w.balancers; balancer = w.balancer }
with Server n w = record { buckets = w.buckets; servers = w.servers; server = Some n; balancers = w.balancers; balancer = w.balancer }
with Balancers n w = record { buckets = w.buckets; servers = w.servers; server = w.server; balancers = Some n; balancer = w.balancer }
with Balancer n w = record { buckets = w.buckets; servers = w.servers; server = w.server; balancers = w.balancers; balancer = Some n }

abbrev pub or_malformed : Option ℕ → Result ℕ Fault
or_malformed (Some n) = Ok n
or_malformed None = Err Malformed

-- a space and a number
abbrev pub number_in : List ℕ → Result ℕ Fault
number_in rest = cond (slice_index rest 0 == 32) (or_malformed (numeral (drop 1 rest))) (Err Malformed)

abbrev fitting : Setting → Result ℕ Fault → Result ℕ Fault
fitting s (Ok n) = cond (fits s n) (Ok n) (Err NoSuch)
fitting s (Err f) = Err f

-- the value of a setting, behind its name; twice is a fault
abbrev pub setting : Setting → Option ℕ → List ℕ → Result ℕ Fault
setting s (Some old) rest = Err Malformed
setting s None rest = fitting s (number_in rest)

-- THE SERVERS

abbrev pub risen : ℕ → Result ℕ Fault → Result ℕ Fault
risen low (Ok n) = cond (nat_le low n && nat_lt n 256) (Ok n) (Err NoSuch)
risen low (Err f) = Err f

-- a server's number; low: the lowest one that may come
abbrev pub server_in : List ℕ → ℕ → Result ℕ Fault
server_in digits low = risen low (or_malformed (numeral digits))

abbrev pub onward : (ℕ → Result (List ℕ) Fault) → Result ℕ Fault → Result (List ℕ) Fault
onward go (Ok n) = go n
onward go (Err f) = Err f

-- the servers so far, and those in the words that are left: they rise
unfoldable pub servers_from : List ℕ → ℕ → List (List ℕ) → Result (List ℕ) Fault
servers_from done low [] = Ok done
servers_from done low (digits ∷ more) = onward (λ n. servers_from (done ++ n ∷ []) (n + 1) more) (server_in digits low)

-- with a space between them
abbrev pub servers_listed : List ℕ → Result (List ℕ) Fault
servers_listed list = servers_from [] 0 (slice_split (λ c. c == 32) list)

abbrev pub is_empty : List ℕ → Bool
is_empty xs = length xs == 0

-- behind the word, with a space before each
abbrev pub servers_in : List ℕ → Result (List ℕ) Fault
servers_in rest = cond (is_empty rest) (Err NoServer) (servers_listed (drop 1 rest))

abbrev pub Listed : Result (List ℕ) Fault → Result (Vec ℕ Global) Error → Type 0
Listed (Ok ss) (Ok v) = vec_items v ≡ ss
Listed (Ok ss) (Err Memory) = Unit {0}
Listed (Ok ss) (Err (Of g)) = ⊥
Listed (Err f) (Ok v) = ⊥
Listed (Err f) (Err Memory) = Unit {0}
Listed (Err f) (Err (Of g)) = g ≡ f

-- A LINE

-- what becomes of the settings: more may come, all is written, or there is a fault
pub data Next : Type 0 where
  More : Written → Next
  Run : Next
  Stop : Fault → Next

abbrev pub runs : List ℕ → Written → Next
runs rest w = cond (is_empty rest) (cond (is_empty w.servers) (Stop NoServer) Run) (Stop Malformed)

abbrev with_servers : Written → Result (List ℕ) Fault → Next
with_servers w (Ok ss) = More (record { buckets = w.buckets; servers = ss; server = w.server; balancers = w.balancers; balancer = w.balancer })
with_servers w (Err f) = Stop f

abbrev pub lists : List ℕ → Written → Next
lists rest w = cond (is_empty w.servers) (with_servers w (servers_in rest)) (Stop Malformed)

abbrev with_value : Setting → Written → Result ℕ Fault → Next
with_value s w (Ok n) = More (with s n w)
with_value s w (Err f) = Stop f

abbrev pub sets : Option Setting → List ℕ → Written → Next
sets None rest w = Stop Malformed
sets (Some s) rest w = with_value s w (setting s (value_of s w) rest)

abbrev pub by_word : List ℕ → List ℕ → Written → Next
by_word word rest w =
    cond (bytes_eq word (codes "run")) (runs rest w)
    (cond (bytes_eq word (codes "houses")) (lists rest w) (sets (named word) rest w))

abbrev pub next : List ℕ → Written → Next
next line w = by_word (word_of line) (rest_of line) w

-- the answer of the code (true where all is written), and the settings before and after
abbrev pub Takes : Next → Result Bool Error → Written → Written → Type 0
Takes (More w) (Ok b) was after = (b ≡ false) × (after ≡ w)
Takes (More w) (Err Memory) was after = after ≡ was
Takes (More w) (Err (Of f)) was after = ⊥
Takes Run (Ok b) was after = (b ≡ true) × (after ≡ was)
Takes Run (Err e) was after = ⊥
Takes (Stop f) (Ok b) was after = ⊥
Takes (Stop f) (Err Memory) was after = after ≡ was
Takes (Stop f) (Err (Of g)) was after = (g ≡ f) × (after ≡ was)
