-- The bytes of a reply (RFC 9112, sections 4, 5 and 6).
use Rattle.std.specs.Prelude.{ℕ, Bool, if◌then◌else◌, ◌==◌, List, [], ◌∷◌, ◌++◌, length, codes, decimal}
use Rattle.std.specs.List.{list_any}

-- the statuses that replies have
abbrev pub is_reply_status : ℕ → Bool
is_reply_status status = list_any (λ s. s == status) (200 ∷ 400 ∷ 404 ∷ 409 ∷ 413 ∷ 503 ∷ [])

abbrev pub reason_phrase : ℕ → List ℕ
reason_phrase status =
    if status == 200 then codes "OK"
    else (if status == 400 then codes "Bad Request"
    else (if status == 404 then codes "Not Found"
    else (if status == 409 then codes "Conflict"
    else (if status == 413 then codes "Payload Too Large"
    else (if status == 503 then codes "Service Unavailable"
    else [])))))

-- a line, ended by CR LF
abbrev pub line : List ℕ → List ℕ
line text = text ++ 13 ∷ 10 ∷ []

abbrev pub status_line : ℕ → List ℕ
status_line status = line (codes "HTTP/1.1 " ++ (decimal status ++ (codes " " ++ reason_phrase status)))

abbrev pub length_line : ℕ → List ℕ
length_line count = line (codes "Content-Length: " ++ decimal count)

abbrev pub close_line : Bool → List ℕ
close_line close = if close then line (codes "Connection: close") else []

-- status line, field lines, an empty line, and the body
abbrev pub reply : ℕ → List ℕ → Bool → List ℕ
reply status body close =
    status_line status ++ (line (codes "Content-Type: application/json") ++ (length_line (length body) ++ (close_line close ++ (line [] ++ body))))
