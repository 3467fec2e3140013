-- the texts of a demo with so many customers
use Rattle.std.specs.Prelude.{ℕ, zero, suc, ◌+◌, ◌*◌, ◌%◌, ◌==◌, if◌then◌else◌, List, [], ◌++◌, codes, decimal}
use Rattle.pm_demo.specs.declared.demo.Demo.{Demo}

abbrev pub schema_text : List ℕ
schema_text =
    codes "TABLE cust FROM 'cust.csv' (id INT NOT NULL, region TEXT NOT NULL, KEY (id));\n"
    ++ codes "TABLE ord FROM 'ord.csv' (id INT NOT NULL, cust INT NOT NULL, amt INT NOT NULL, KEY (id));\n"

abbrev pub query_text : List ℕ
query_text =
    codes "SELECT c.region, COUNT(*) AS n, SUM(o.amt) AS total FROM ord o JOIN cust c ON o.cust = c.id "
    ++ codes "WHERE o.amt > 50 GROUP BY c.region ORDER BY total DESC\n"

-- the five regions in turn
abbrev pub region : ℕ → List ℕ
region i =
    if i % 5 == 0 then codes "north"
    else (if i % 5 == 1 then codes "south"
    else (if i % 5 == 2 then codes "east"
    else (if i % 5 == 3 then codes "west" else codes "centre")))

-- the line of customer i, counted from 0
abbrev pub customer_line : ℕ → List ℕ
customer_line i = decimal (i + 1) ++ codes "," ++ region i ++ codes "\n"

-- the line of order k, counted from 0, where there are n customers
abbrev pub order_line : ℕ → ℕ → List ℕ
order_line n k = decimal (k + 1) ++ codes "," ++ decimal (k % n + 1) ++ codes "," ++ decimal (k % 100 + 1) ++ codes "\n"

-- the lines of all numbers below n, in order
abbrev pub lines : (ℕ → List ℕ) → ℕ → List ℕ
lines line zero = []
lines line (suc n) = lines line n ++ line n

abbrev pub demo_of : ℕ → Demo
demo_of n =
    record {
      schema = schema_text;
      query = query_text;
      cust = codes "id,region\n" ++ lines customer_line n;
      ord = codes "id,cust,amt\n" ++ lines (order_line n) (4 * n);
    }
